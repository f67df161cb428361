-- Each operator, from code that is right for its sides.
use Rattle.std.proofs.Common.{◌≡◌, ℕ, zero, suc, ◌+◌, ◌-◌, ◌^◌, ◌<◌, ◌≤◌, Bool, true, false, not, if◌then◌else◌, nat_eq, List, [], ◌∷◌, ◌++◌, length, Option, Some, None, refl, sym, ap, ◌∙◌, subst, arith, append_assoc, length-append}
use Rattle.std.specs.Prelude.{slice_get, max}
use Rattle.std.proofs.lemmas.Bool.{eqb-true}
use Rattle.pulse_isa.specs.declared.instr.Instr.{Instr}
use Rattle.pulse_isa.specs.declared.instr.Instr.TheVariants.{Mov, Not}
use Rattle.pulse_base.specs.declared.answer.Cause.TheVariants.{DivZero}
use Rattle.pulse_isa.specs.Step.{State, End, Faults, After, On, Ends, put, step}
use Rattle.code_verify.specs.Run.{follow, run}
use Rattle.iter_check.specs.Value.{bit}
use Rattle.flat_code.specs.Code.{Code, test, operand, operand_code, operand_len, two_code, compute, flip_code, compare, not_code, move, joined_value, joined_target, joined}
use Rattle.flat_code.proofs.Base.{Kept, kept_then, Tied, tied_on, at, here_is, pass, Leads, leads_map, Word, Jump, led, truth, word_from, jump_from, puts, tests}
use Rattle.flat_code.proofs.Right.{ValueRight, Right, by_value_right, by_branch_right, IsBit, operand_right, both_word, two_right}
use Rattle.flat_code.proofs.Long.{two_length, flip_length, joined_long}

-- ---- plain binaries

abbrev pub put_word : Option ℕ → ℕ → State → After
put_word None d s = Ends (Faults DivZero)
put_word (Some v) d s = put d v s

-- the instruction computes the word
abbrev pub Computes : (ℕ → ℕ → ℕ → Instr) → (ℕ → ℕ → Option ℕ) → Type 0
Computes i f = (d b c x y : ℕ) (s : State) → d < length s.regs → slice_get s.regs b ≡ Some x → slice_get s.regs c ≡ Some y → step (i d b c) s ≡ put_word (f x y) d s

puts_word : (i : Instr) (o : Option ℕ) (e : End) (h d t : ℕ) (post : List Instr) (s : State) (regs regs2 : List ℕ) → d < 15 → length regs2 ≡ 16 → Kept t t regs regs2 → e ≡ run h (i ∷ post) (at s h regs2) → step i (at s h regs2) ≡ put_word o d (at s h regs2) → Leads e o (Word e (h + 1) d d t post s regs)
puts_word i None e h d t post s regs regs2 lt long k q is = q ∙ here_is h i post s regs2 ∙ ap (λ a. follow a (run (h + 1) post)) is
puts_word i (Some v) e h d t post s regs regs2 lt long k q is = puts i e h d t v post s regs regs2 lt long k q is

pub compute_right : (i : ℕ → ℕ → ℕ → Instr) (f : ℕ → ℕ → Option ℕ) → Computes i f → (ha hb : ℕ) (slots : List ℕ) (s : State) (a b : Code) (oa ob : Option ℕ) → Right ha slots s a oa → Right hb slots s b ob → Right (max ha (hb + 1)) slots s (compute i a b) (both_word f oa ob)
compute_right i f is ha hb slots s a b oa ob ra rb =
    by_value_right (max ha (hb + 1)) slots s _ (operand_len a + operand_len b + 1) (both_word f oa ob)
    (λ d t here post regs tied low room le.
    let two = two_code a b t here in
    let j = i d (operand a.home t) (operand b.home (t + 1)) in
    let q : here + operand_len a + operand_len b + 1 ≡ here + length (two ++ j ∷ []) = omega (arith, two_length a b ra.long rb.long t here j) in
    word_from _ _ _ _ d d t post s regs (both_word f oa ob) (ap (λ l. run here l (at s here regs)) (append_assoc two (j ∷ []) post)) q
    (two_right ha hb slots s a b oa ob ra rb f t here (j ∷ post) regs _ tied low (omega arith) (omega arith)
    (λ x y regs2 e hx hy k tied2. puts_word j (f x y) _ _ d t post s regs regs2 (omega arith) tied2.long k e (is d _ _ x y _ (omega (arith, tied2.long)) hx hy))))
    (λ d t here. two_length a b ra.long rb.long t here (i d (operand a.home t) (operand b.home (t + 1))))

-- ---- `~`

abbrev pub one_word : (ℕ → Option ℕ) → Option ℕ → Option ℕ
one_word f None = None
one_word f (Some x) = f x

pub flip_right : (h : ℕ) (slots : List ℕ) (s : State) (a : Code) (o : Option ℕ) → Right h slots s a o → Right h slots s (flip_code a) (one_word (λ x. Some (2 ^ 64 - 1 - x)) o)
flip_right h slots s a o ra =
    by_value_right h slots s _ (operand_len a + 1) (one_word (λ x. Some (2 ^ 64 - 1 - x)) o)
    (λ d t here post regs tied low room le.
    let c = operand_code a t here in
    let j = Not d (operand a.home t) in
    let q : here + operand_len a + 1 ≡ here + length (c ++ j ∷ []) = omega (arith, flip_length a ra.long d t here) in
    word_from _ _ _ _ d d t post s regs (one_word (λ x. Some (2 ^ 64 - 1 - x)) o) (ap (λ l. run here l (at s here regs)) (append_assoc c (j ∷ []) post)) q
    (flipped o _ (here + operand_len a) (operand a.home t) d t post s slots regs tied (omega arith) (operand_right h slots s a o ra t here (j ∷ post) regs tied low room)))
    (flip_length a ra.long)
  where
    flipped : (o : Option ℕ) (e : End) (h r d t : ℕ) (post : List Instr) (s : State) (slots regs : List ℕ) → Tied slots regs → d < 15 → Leads e o (Word e h r t t (Not d r ∷ post) s regs) → Leads e (one_word (λ x. Some (2 ^ 64 - 1 - x)) o) (Word e (h + 1) d d t post s regs)
    flipped None e h r d t post s slots regs tied lt g = g
    flipped (Some x) e h r d t post s slots regs tied lt g =
        puts (Not d r) e h d t (2 ^ 64 - 1 - x) post s regs g.after lt (g.kept.long ∙ tied.long) g.kept g.comes (let hx = g.value in rw hx)

-- ---- comparisons

-- where the instruction jumps by a truth of two words
abbrev pub Jumps : (ℕ → ℕ → ℕ → Instr) → (ℕ → ℕ → Bool) → Type 0
Jumps i f = (b c to x y h : ℕ) (s : State) (regs : List ℕ) → slice_get regs b ≡ Some x → slice_get regs c ≡ Some y → step (i b c to) (at s h regs) ≡ On (at s (led true (f x y) to (h + 1)) regs)

truth_bit : (b : Bool) → truth (bit b) ≡ b
truth_bit true = refl
truth_bit false = refl

bit_truth : (b : Bool) → bit b ≡ bit (truth (bit b))
bit_truth true = refl
bit_truth false = refl

led_not : (b : Bool) (to there : ℕ) → led true (not b) to there ≡ led false b to there
led_not true to there = refl
led_not false to there = refl

chosen : (j : Bool → ℕ → ℕ → ℕ → Instr) (f : ℕ → ℕ → Bool) → Jumps (j true) f → Jumps (j false) (λ x y. not (f x y)) → (sense : Bool) (b c to x y h : ℕ) (s : State) (regs : List ℕ) → slice_get regs b ≡ Some x → slice_get regs c ≡ Some y → step (j sense b c to) (at s h regs) ≡ On (at s (led sense (truth (bit (f x y))) to (h + 1)) regs)
chosen j f yes_is no_is true b c to x y h s regs hx hy =
    yes_is b c to x y h s regs hx hy ∙ ap (λ v. On (at s (led true v to (h + 1)) regs)) (sym (truth_bit (f x y)))
chosen j f yes_is no_is false b c to x y h s regs hx hy =
    no_is b c to x y h s regs hx hy ∙ ap (λ p. On (at s p regs)) (led_not (f x y) to (h + 1)) ∙ ap (λ v. On (at s (led false v to (h + 1)) regs)) (sym (truth_bit (f x y)))

abbrev pub bit_word : (ℕ → ℕ → Bool) → ℕ → ℕ → Option ℕ
bit_word f x y = Some (bit (f x y))

pub compare_right : (j : Bool → ℕ → ℕ → ℕ → Instr) (f : ℕ → ℕ → Bool) → Jumps (j true) f → Jumps (j false) (λ x y. not (f x y)) → (ha hb : ℕ) (slots : List ℕ) (s : State) (a b : Code) (oa ob : Option ℕ) → Right ha slots s a oa → Right hb slots s b ob → Right (max ha (hb + 1)) slots s (compare j a b) (both_word (bit_word f) oa ob)
compare_right j f yes_is no_is ha hb slots s a b oa ob ra rb =
    by_branch_right (max ha (hb + 1)) slots s _ (operand_len a + operand_len b + 1) (both_word (bit_word f) oa ob) (is_bit oa ob)
    (λ sense to t here post regs tied low room past.
    let two = two_code a b t here in
    let k = j sense (operand a.home t) (operand b.home (t + 1)) to in
    let h2 = here + operand_len a + operand_len b in
    let q : h2 + 1 ≡ here + (operand_len a + operand_len b + 1) = omega arith in
    jump_from _ _ sense to _ _ t post s regs (both_word (bit_word f) oa ob) (ap (λ l. run here l (at s here regs)) (append_assoc two (k ∷ []) post)) q
    (two_right ha hb slots s a b oa ob ra rb (bit_word f) t here (k ∷ post) regs _ tied low (omega arith) (omega arith)
    (λ x y regs2 e hx hy kept tied2. record {
      after = regs2;
      comes = e ∙ here_is h2 k post s regs2 ∙ ap (λ a. follow a (run (h2 + 1) post)) (chosen j f yes_is no_is sense _ _ to x y h2 s regs2 hx hy);
      kept = kept;
    })))
    (λ sense to t here. two_length a b ra.long rb.long t here (j sense (operand a.home t) (operand b.home (t + 1)) to))
  where
    is_bit : (oa ob : Option ℕ) → IsBit (both_word (bit_word f) oa ob)
    is_bit None ob = tt
    is_bit (Some x) None = tt
    is_bit (Some x) (Some y) = bit_truth (f x y)

-- ---- `!`

pub not_right : (h : ℕ) (slots : List ℕ) (s : State) (a : Code) (o : Option ℕ) → Right h slots s a o → Right h slots s (not_code a) (one_word (λ x. Some (bit (nat_eq x 0))) o)
not_right h slots s a o ra =
    by_branch_right h slots s _ a.branch_len (one_word (λ x. Some (bit (nat_eq x 0))) o) (is_bit o)
    (λ sense to t here post regs tied low room past. turned o _ sense to (here + a.branch_len) t post s regs (ra.branch (not sense) to t here post regs tied low room past))
    (λ sense to t here. ra.long.branch (not sense) to t here)
  where
    is_bit : (o : Option ℕ) → IsBit (one_word (λ x. Some (bit (nat_eq x 0))) o)
    is_bit None = tt
    is_bit (Some x) = bit_truth (nat_eq x 0)

    led_turned : (sense b : Bool) (to there : ℕ) → led (not sense) (not b) to there ≡ led sense (truth (bit b)) to there
    led_turned true true to there = refl
    led_turned true false to there = refl
    led_turned false true to there = refl
    led_turned false false to there = refl

    turned : (o : Option ℕ) (e : End) (sense : Bool) (to there t : ℕ) (post : List Instr) (s : State) (regs : List ℕ) → Leads e o (Jump e (not sense) to there t post s regs) → Leads e (one_word (λ x. Some (bit (nat_eq x 0))) o) (Jump e sense to there t post s regs)
    turned None e sense to there t post s regs g = g
    turned (Some x) e sense to there t post s regs g =
        record { after = g.after; comes = g.comes ∙ ap (λ p. run there post (at s p g.after)) (led_turned sense (nat_eq x 0) to there); kept = g.kept }

-- ---- `&&` and `||`

-- the left side where its truth is `short`, else the right
abbrev pub joined_word : Bool → Option ℕ → Option ℕ → Option ℕ
joined_word short None w = None
joined_word true (Some zero) w = w
joined_word true (Some (suc x)) w = Some (suc x)
joined_word false (Some zero) w = Some zero
joined_word false (Some (suc x)) w = w

pub suc_true : (x : ℕ) → truth (suc x) ≡ true
suc_true x = let ne : nat_eq (suc x) 0 ≡ false = grind arith in ap not ne

-- by the left side: it decides, or the right side does
joined_by : (short : Bool) (oa ob : Option ℕ) (e : End) (P Q : ℕ → Type 0) → Leads e oa P → ((x : ℕ) → truth x ≡ short → P x → Q x) → ((x : ℕ) → truth x ≡ not short → P x → Leads e ob Q) → Leads e (joined_word short oa ob) Q
joined_by short None ob e P Q g short_is long_is = g
joined_by true (Some zero) ob e P Q g short_is long_is = long_is 0 refl g
joined_by true (Some (suc x)) ob e P Q g short_is long_is = short_is (suc x) (suc_true x) g
joined_by false (Some zero) ob e P Q g short_is long_is = short_is 0 refl g
joined_by false (Some (suc x)) ob e P Q g short_is long_is = long_is (suc x) (suc_true x) g

led_short : (b c : Bool) (to there : ℕ) → c ≡ b → led b c to there ≡ to
led_short true true to there e = refl
led_short true false to there e = absurd cc
led_short false true to there e = absurd cc
led_short false false to there e = refl

led_long : (b c : Bool) (to there : ℕ) → c ≡ not b → led b c to there ≡ there
led_long true true to there e = absurd cc
led_long true false to there e = refl
led_long false true to there e = refl
led_long false false to there e = absurd cc

stepped : (short : Bool) (x : ℕ) (e : End) (h to t : ℕ) (rest : List Instr) (s : State) (slots regs : List ℕ) → Tied slots regs → (g : Word e h t t t (test short t to ∷ rest) s regs x) → e ≡ run (h + 1) rest (at s (led short (truth x) to (h + 1)) g.after)
stepped short x e h to t rest s slots regs tied g =
    g.comes ∙ here_is h (test short t to) rest s g.after ∙ ap (λ a. follow a (run (h + 1) rest)) (tests short t to x h s g.after g.value (g.kept.top ∙ tied.zeros))

moved : (o : Option ℕ) (e : End) (h d t : ℕ) (post : List Instr) (s : State) (slots regs : List ℕ) → Tied slots regs → d < 15 → Leads e o (Word e h t t t (move d t ++ post) s regs) → Leads e o (Word e (h + length (move d t)) d d t post s regs)
moved o e h d t post s slots regs tied lt g = by_case (nat_eq d t) refl o g
  where
    by_case : (b : Bool) → nat_eq d t ≡ b → (o : Option ℕ) → Leads e o (Word e h t t t ((if b then [] else Mov d t ∷ []) ++ post) s regs) → Leads e o (Word e (h + length (if b then [] else Mov d t ∷ [])) d d t post s regs)
    by_case b hb None g = g
    by_case true hb (Some v) g =
        let z : h ≡ h + 0 = omega arith in
        subst (λ r. Word e (h + 0) r r t post s regs v) (sym (eqb-true d t hb)) (word_from e e h (h + 0) t t t post s regs (Some v) refl z g)
    by_case false hb (Some v) g = puts (Mov d t) e h d t v post s regs g.after lt (g.kept.long ∙ tied.long) g.kept g.comes (let hx = g.value in rw hx)

joined_value_right : (short : Bool) (ha hb : ℕ) (slots : List ℕ) (s : State) (a b : Code) (oa ob : Option ℕ) → Right ha slots s a oa → Right hb slots s b ob → ValueRight (max ha (hb + 1)) slots s (joined_value short a b) (joined_word short oa ob)
joined_value_right short ha hb slots s a b oa ob ra rb d t here post regs tied low room le =
    let h1 = here + a.value_len in
    let past = h1 + 1 + b.value_len in
    let ca = a.value t t here in
    let cb = b.value t t (h1 + 1) in
    let k = test short t past in
    let mv = move d t in
    let rest = cb ++ (mv ++ post) in
    let e = run here ((ca ++ (k ∷ (cb ++ mv))) ++ post) (at s here regs) in
    let flat : (ca ++ (k ∷ (cb ++ mv))) ++ post ≡ ca ++ (k ∷ (cb ++ (mv ++ post))) = simp append_assoc in
    let la = ra.long.value t here in
    let lb = rb.long.value t (h1 + 1) in
    let there : h1 + 1 + length cb ≡ past = omega arith in
    let q : past + length mv ≡ here + length (ca ++ (k ∷ (cb ++ mv))) = omega (arith, length-append ca (k ∷ (cb ++ mv)), length-append cb mv) in
    let left : Leads e oa (Word e h1 t t t (k ∷ rest) s regs) = word_from _ e _ h1 t t t (k ∷ rest) s regs oa (ap (λ l. run here l (at s here regs)) flat) (ap (λ n. here + n) la) (ra.value t t here (k ∷ rest) regs tied low (omega arith) (omega arith)) in
    word_from e e (past + length mv) _ d d t post s regs (joined_word short oa ob) refl q
    (moved (joined_word short oa ob) e past d t post s slots regs tied (omega arith)
    (joined_by short oa ob e (Word e h1 t t t (k ∷ rest) s regs) (Word e past t t t (mv ++ post) s regs) left
    (λ x hx g. record {
      after = g.after;
      comes = stepped short x e h1 past t rest s slots regs tied g
          ∙ ap (λ p. run (h1 + 1) rest (at s p g.after)) (led_short short (truth x) past (h1 + 1) hx)
          ∙ pass cb (mv ++ post) (h1 + 1) past s g.after (omega arith)
          ∙ ap (λ p. run p (mv ++ post) (at s past g.after)) there;
      value = g.value;
      kept = g.kept;
    })
    (λ x hx g.
    leads_map _ e ob _ (Word e past t t t (mv ++ post) s regs)
    (stepped short x e h1 past t rest s slots regs tied g ∙ ap (λ p. run (h1 + 1) rest (at s p g.after)) (led_long short (truth x) past (h1 + 1) hx))
    (λ y w. record {
      after = w.after;
      comes = stepped short x e h1 past t rest s slots regs tied g ∙ ap (λ p. run (h1 + 1) rest (at s p g.after)) (led_long short (truth x) past (h1 + 1) hx) ∙ w.comes ∙ ap (λ p. run p (mv ++ post) (at s p w.after)) there;
      value = w.value;
      kept = kept_then t t regs g.after w.after g.kept w.kept;
    })
    (rb.value t t (h1 + 1) (mv ++ post) g.after (tied_on t t slots regs g.after low low tied g.kept) low (omega arith) (omega arith)))))

pub target_above : (short sense : Bool) (n to past : ℕ) → n ≤ to → n ≤ past → n ≤ joined_target short sense to past
target_above true true n to past h k = h
target_above true false n to past h k = k
target_above false true n to past h k = k
target_above false false n to past h k = h

target_is : (short sense c : Bool) (to past : ℕ) → c ≡ short → joined_target short sense to past ≡ led sense c to past
target_is true true c to past e = ap (λ c. led true c to past) (sym e)
target_is true false c to past e = ap (λ c. led false c to past) (sym e)
target_is false true c to past e = ap (λ c. led true c to past) (sym e)
target_is false false c to past e = ap (λ c. led false c to past) (sym e)

pub joined_right : (short : Bool) (ha hb : ℕ) (slots : List ℕ) (s : State) (a b : Code) (oa ob : Option ℕ) → Right ha slots s a oa → Right hb slots s b ob → Right (max ha (hb + 1)) slots s (joined short a b) (joined_word short oa ob)
joined_right short ha hb slots s a b oa ob ra rb = record {
  value = joined_value_right short ha hb slots s a b oa ob ra rb;
  branch = λ sense to t here post regs tied low room le.
      let h1 = here + a.branch_len in
      let past = h1 + b.branch_len in
      let target = joined_target short sense to past in
      let ca = a.branch short target t here in
      let cb = b.branch sense to t h1 in
      let e = run here ((ca ++ cb) ++ post) (at s here regs) in
      let lb = rb.long.branch sense to t h1 in
      let there : h1 + length cb ≡ past = omega arith in
      let q : past ≡ here + (a.branch_len + b.branch_len) = omega arith in
      let above : past ≤ target = target_above short sense past to past (omega arith) (omega arith) in
      let left : Leads e oa (Jump e short target h1 t (cb ++ post) s regs) = jump_from _ e short target h1 h1 t (cb ++ post) s regs oa (ap (λ l. run here l (at s here regs)) (append_assoc ca cb post)) refl (ra.branch short target t here (cb ++ post) regs tied low (omega arith) (omega arith)) in
      jump_from e e sense to past _ t post s regs (joined_word short oa ob) refl q
      (joined_by short oa ob e (Jump e short target h1 t (cb ++ post) s regs) (Jump e sense to past t post s regs) left
      (λ x hx g. record {
        after = g.after;
        comes = g.comes
            ∙ ap (λ p. run h1 (cb ++ post) (at s p g.after)) (led_short short (truth x) target h1 hx)
            ∙ pass cb post h1 target s g.after (omega arith)
            ∙ ap (λ p. run p post (at s target g.after)) there
            ∙ ap (λ p. run past post (at s p g.after)) (target_is short sense (truth x) to past hx);
        kept = g.kept;
      })
      (λ x hx g.
      let on = g.comes ∙ ap (λ p. run h1 (cb ++ post) (at s p g.after)) (led_long short (truth x) target h1 hx) in
      leads_map _ e ob _ (Jump e sense to past t post s regs) on
      (λ y w. record { after = w.after; comes = on ∙ w.comes; kept = kept_then t t regs g.after w.after g.kept w.kept })
      (rb.branch sense to t h1 post g.after (tied_on t t slots regs g.after low low tied g.kept) low (omega arith) (omega arith))));
  long = joined_long short a b ra.long rb.long;
  homed = tt;
}
