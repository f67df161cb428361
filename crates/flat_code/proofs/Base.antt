-- Registers, places and operands of a run.
use Rattle.std.proofs.Common.{◌≡◌, ◌≢◌, ℕ, zero, suc, ◌+◌, ◌<◌, ◌≤◌, Bool, true, false, not, if◌then◌else◌, nat_eq, List, [], ◌∷◌, ◌++◌, length, get_or, Option, Some, None, refl, ap, ◌∙◌, arith}
use Rattle.std.specs.Prelude.{slice_get, slice_set}
use Rattle.std.proofs.lemmas.Bool.{eq-eqb, lt-ltb}
use Rattle.std.proofs.lemmas.List.{get_or-set_same}
use Rattle.std.proofs.lemmas.Option.{slice_get-get_or}
use Rattle.std.proofs.lemmas.Grind.{common_steps}
use Rattle.pulse_isa.specs.declared.instr.Instr.{Instr}
use Rattle.pulse_base.specs.declared.answer.Cause.TheVariants.{DivZero}
use Rattle.pulse_isa.specs.Step.{State, End, Faults, On, given, put, step}
use Rattle.code_verify.specs.Run.{follow, run}
use Rattle.flat_code.specs.Code.{test}

-- ---- registers

pub length_set : (l : List ℕ) (i v : ℕ) → length (slice_set l i v) ≡ length l
length_set l i v = grind (arith, common_steps)

pub get_same : (l : List ℕ) (i v : ℕ) → i < length l → slice_get (slice_set l i v) i ≡ Some v
get_same l i v h = slice_get-get_or (slice_set l i v) i v (omega (arith, length_set l i v)) ∙ ap Some (get_or-set_same l i v v h)

pub get_apart : (l : List ℕ) (i j v : ℕ) → j ≢ i → slice_get (slice_set l i v) j ≡ slice_get l j
get_apart [] i j v h = refl
get_apart (x ∷ l) zero zero v h = absurd (h refl)
get_apart (x ∷ l) zero (suc j) v h = refl
get_apart (x ∷ l) (suc i) zero v h = refl
get_apart (x ∷ l) (suc i) (suc j) v h = get_apart l i j v (λ e. h (ap suc e))

-- the registers below t, but for d, and r15 are as they were
pub record Kept (d t : ℕ) (old new : List ℕ) : Type 0 where
  pub long : length new ≡ length old
  pub low : (i : ℕ) → i < t → i ≢ d → slice_get new i ≡ slice_get old i
  pub top : slice_get new 15 ≡ slice_get old 15

pub kept_same : (d t : ℕ) (l : List ℕ) → Kept d t l l
kept_same d t l = record { long = refl; low = λ i lt ne. refl; top = refl }

pub kept_set : (d t v : ℕ) (l : List ℕ) → d < 15 → Kept d t l (slice_set l d v)
kept_set d t v l lt = record { long = length_set l d v; low = λ i h ne. get_apart l d i v ne; top = get_apart l d 15 v (λ e. omega arith) }

pub kept_on : (d t u : ℕ) (a b c : List ℕ) → t ≤ u → Kept t t a b → Kept u u b c → Kept t t a c
kept_on d t u a b c le p q = record { long = q.long ∙ p.long; low = λ i lt ne. q.low i (omega arith) (λ e. omega arith) ∙ p.low i lt ne; top = q.top ∙ p.top }

pub kept_then : (d t : ℕ) (a b c : List ℕ) → Kept t t a b → Kept d t b c → Kept d t a c
kept_then d t a b c p q = record { long = q.long ∙ p.long; low = λ i lt ne. q.low i lt ne ∙ p.low i lt (λ e. omega arith); top = q.top ∙ p.top }

-- the slots stand in r0 to r7, and r15 is 0
pub record Tied (slots regs : List ℕ) : Type 0 where
  pub count : length slots ≡ 8
  pub long : length regs ≡ 16
  pub slot : (i : ℕ) → i < 8 → slice_get regs i ≡ Some (get_or slots i 0)
  pub zeros : slice_get regs 15 ≡ Some 0

pub tied_on : (d t : ℕ) (slots a b : List ℕ) → 8 ≤ d → 8 ≤ t → Tied slots a → Kept d t a b → Tied slots b
tied_on d t slots a b ld lt h k = record { count = h.count; long = k.long ∙ h.long; slot = λ i li. k.low i (omega arith) (λ e. omega arith) ∙ h.slot i li; zeros = k.top ∙ h.zeros }

-- ---- places

abbrev pub at : State → ℕ → List ℕ → State
at s p regs = record s { place = p; regs = regs }

pub here_is : (h : ℕ) (i : Instr) (is : List Instr) (s : State) (regs : List ℕ) → run h (i ∷ is) (at s h regs) ≡ follow (step i (at s h regs)) (run (h + 1) is)
here_is h i is s regs =
    ap (λ (b : Bool). if b then follow (step i (at s h regs)) (run (h + 1) is) else run (h + 1) is (at s h regs)) (eq-eqb h h refl)

pub pass : (c post : List Instr) (h to : ℕ) (s : State) (regs : List ℕ) → h + length c ≤ to → run h (c ++ post) (at s to regs) ≡ run (h + length c) post (at s to regs)
pass [] post h to s regs le = let e : h ≡ h + 0 = omega arith in ap (λ k. run k post (at s to regs)) e
pass (i ∷ c) post h to s regs le =
    let ne : nat_eq h to ≡ false = grind arith in
    let e : h + 1 + length c ≡ h + length (i ∷ c) = omega arith in
    ap (λ (b : Bool). if b then follow (step i (at s to regs)) (run (h + 1) (c ++ post)) else run (h + 1) (c ++ post) (at s to regs)) ne
    ∙ pass c post (h + 1) to s regs (omega arith)
    ∙ ap (λ k. run k post (at s to regs)) e

pub put_is : (d v h : ℕ) (s : State) (regs : List ℕ) → d < length regs → put d v (at s h regs) ≡ On (at s (h + 1) (slice_set regs d v))
put_is d v h s regs lt = ap (λ b. given b (On (at s (h + 1) (slice_set regs d v)))) (lt-ltb d (length regs) lt)

-- ---- where a run leads

-- a division by zero, or something of the word
abbrev pub Leads : End → Option ℕ → (ℕ → Type 0) → Type 0
Leads e None P = e ≡ Faults DivZero
Leads e (Some v) P = P v

pub leads_map : (e e' : End) (o : Option ℕ) (P Q : ℕ → Type 0) → e' ≡ e → ((v : ℕ) → P v → Q v) → Leads e o P → Leads e' o Q
leads_map e e' None P Q q f g = q ∙ g
leads_map e e' (Some v) P Q q f g = f v g

-- the run goes on at `there` with the word v in register r, where d and t bound what changed
pub record Word (e : End) (there r d t : ℕ) (post : List Instr) (s : State) (regs : List ℕ) (v : ℕ) : Type 0 where
  pub after : List ℕ
  pub comes : e ≡ run there post (at s there after)
  pub value : slice_get after r ≡ Some v
  pub kept : Kept d t regs after

-- where a jump by a truth leads
abbrev pub led : Bool → Bool → ℕ → ℕ → ℕ
led true true to there = to
led true false to there = there
led false true to there = there
led false false to there = to

abbrev pub truth : ℕ → Bool
truth v = not (nat_eq v 0)

-- the run goes on at `there` or jumps to `to`, by the truth of the word v
pub record Jump (e : End) (sense : Bool) (to there t : ℕ) (post : List Instr) (s : State) (regs : List ℕ) (v : ℕ) : Type 0 where
  pub after : List ℕ
  pub comes : e ≡ run there post (at s (led sense (truth v) to there) after)
  pub kept : Kept t t regs after

pub word_from : (e e' : End) (there there' r d t : ℕ) (post : List Instr) (s : State) (regs : List ℕ) (o : Option ℕ) → e' ≡ e → there ≡ there' → Leads e o (Word e there r d t post s regs) → Leads e' o (Word e' there' r d t post s regs)
word_from e e' there there' r d t post s regs None q p g = q ∙ g
word_from e e' there there' r d t post s regs (Some v) q p g =
    record { after = g.after; comes = q ∙ g.comes ∙ ap (λ h. run h post (at s h g.after)) p; value = g.value; kept = g.kept }

pub jump_from : (e e' : End) (sense : Bool) (to there there' t : ℕ) (post : List Instr) (s : State) (regs : List ℕ) (o : Option ℕ) → e' ≡ e → there ≡ there' → Leads e o (Jump e sense to there t post s regs) → Leads e' o (Jump e' sense to there' t post s regs)
jump_from e e' sense to there there' t post s regs None q p g = q ∙ g
jump_from e e' sense to there there' t post s regs (Some v) q p g =
    record { after = g.after; comes = q ∙ g.comes ∙ ap (λ h. run h post (at s (led sense (truth v) to h) g.after)) p; kept = g.kept }

-- one instruction that puts a word into register d
pub puts : (i : Instr) (e : End) (h d t v : ℕ) (post : List Instr) (s : State) (regs regs2 : List ℕ) → d < 15 → length regs2 ≡ 16 → Kept t t regs regs2 → e ≡ run h (i ∷ post) (at s h regs2) → step i (at s h regs2) ≡ put d v (at s h regs2) → Word e (h + 1) d d t post s regs v
puts i e h d t v post s regs regs2 lt long k q is = record {
  after = slice_set regs2 d v;
  comes = q ∙ here_is h i post s regs2 ∙ ap (λ a. follow a (run (h + 1) post)) (is ∙ put_is d v h s regs2 (omega arith));
  value = get_same regs2 d v (omega arith);
  kept = kept_then d t regs regs2 (slice_set regs2 d v) k (kept_set d t v regs2 lt);
}

-- a register, compared with r15
pub tests : (sense : Bool) (k to v h : ℕ) (s : State) (regs : List ℕ) → slice_get regs k ≡ Some v → slice_get regs 15 ≡ Some 0 → step (test sense k to) (at s h regs) ≡ On (at s (led sense (truth v) to (h + 1)) regs)
tests true k to zero h s regs hx hz = rw (hx, hz)
tests true k to (suc v) h s regs hx hz = let ne : nat_eq (suc v) 0 ≡ false = grind arith in rw (hx, hz, ne)
tests false k to zero h s regs hx hz = rw (hx, hz)
tests false k to (suc v) h s regs hx hz = let ne : nat_eq (suc v) 0 ≡ false = grind arith in rw (hx, hz, ne)

kept_again : (d t : ℕ) (a b c : List ℕ) → Kept d t a b → Kept d t b c → Kept d t a c
kept_again d t a b c p q = record { long = q.long ∙ p.long; low = λ i lt ne. q.low i lt ne ∙ p.low i lt ne; top = q.top ∙ p.top }

-- the same where d was written before
pub puts_again : (i : Instr) (e : End) (h d t v : ℕ) (post : List Instr) (s : State) (regs regs2 : List ℕ) → d < 15 → length regs2 ≡ 16 → Kept d t regs regs2 → e ≡ run h (i ∷ post) (at s h regs2) → step i (at s h regs2) ≡ put d v (at s h regs2) → Word e (h + 1) d d t post s regs v
puts_again i e h d t v post s regs regs2 lt long k q is = record {
  after = slice_set regs2 d v;
  comes = q ∙ here_is h i post s regs2 ∙ ap (λ a. follow a (run (h + 1) post)) (is ∙ put_is d v h s regs2 (omega arith));
  value = get_same regs2 d v (omega arith);
  kept = kept_again d t regs regs2 (slice_set regs2 d v) k (kept_set d t v regs2 lt);
}
