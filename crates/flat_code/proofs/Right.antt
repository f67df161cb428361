-- When code is right for a word, the three ways to have a value, and two operands one after the other.
use Rattle.std.proofs.Common.{◌≡◌, ℕ, ◌+◌, ◌<◌, ◌≤◌, Bool, true, false, List, [], ◌∷◌, ◌++◌, length, Option, Some, None, refl, sym, ap, ◌∙◌, subst, ◌⊎◌, inl, inr, arith, append_assoc, length-append}
use Rattle.std.specs.Prelude.{slice_get}
use Rattle.pulse_isa.specs.declared.instr.Instr.{Instr}
use Rattle.pulse_isa.specs.declared.instr.Instr.TheVariants.{SetL, Mov, Jmp}
use Rattle.pulse_isa.specs.Step.{State, End}
use Rattle.code_verify.specs.Run.{follow, run}
use Rattle.iter_check.specs.Value.{bit}
use Rattle.flat_code.specs.Code.{Code, test, at_home, by_value, by_branch, operand, unless_home, len_unless_home, operand_code, operand_len, two_code}
use Rattle.flat_code.proofs.Long.{Long, at_home_long, by_value_long, by_branch_long}
use Rattle.flat_code.proofs.Base.{Kept, kept_same, kept_on, Tied, tied_on, at, here_is, pass, Leads, Word, Jump, led, truth, word_from, jump_from, puts, tests}

-- ---- what is right

abbrev pub ValueRight : ℕ → List ℕ → State → (ℕ → ℕ → ℕ → List Instr) → Option ℕ → Type 0
ValueRight h slots s v o =
    (d t here : ℕ) (post : List Instr) (regs : List ℕ) → Tied slots regs → 8 ≤ t → t + h < 15 → d ≤ t
    → Leads (run here (v d t here ++ post) (at s here regs)) o (Word (run here (v d t here ++ post) (at s here regs)) (here + length (v d t here)) d d t post s regs)

abbrev pub BranchRight : ℕ → List ℕ → State → (Bool → ℕ → ℕ → ℕ → List Instr) → ℕ → Option ℕ → Type 0
BranchRight h slots s c n o =
    (sense : Bool) (to t here : ℕ) (post : List Instr) (regs : List ℕ) → Tied slots regs → 8 ≤ t → t + h < 15 → here + n ≤ to
    → Leads (run here (c sense to t here ++ post) (at s here regs)) o (Jump (run here (c sense to t here ++ post) (at s here regs)) sense to (here + n) t post s regs)

-- register k holds the word from the start, and nothing that is computed on the way changes it
pub record HomeAt (slots : List ℕ) (k : ℕ) (o : Option ℕ) : Type 0 where
  pub v : ℕ
  pub is : o ≡ Some v
  pub low : (k < 8) ⊎ (k ≡ 15)
  pub reads : (regs : List ℕ) → Tied slots regs → slice_get regs k ≡ Some v

abbrev pub Homed : List ℕ → Option ℕ → Option ℕ → Type 0
Homed slots None o = Unit {0}
Homed slots (Some k) o = HomeAt slots k o

-- the code c gives the word o, or DivZero where there is none, and takes h registers beyond the first
pub record Right (h : ℕ) (slots : List ℕ) (s : State) (c : Code) (o : Option ℕ) : Type 0 where
  pub value : ValueRight h slots s c.value o
  pub branch : BranchRight h slots s c.branch c.branch_len o
  pub long : Long c
  pub homed : Homed slots c.home o

-- ---- the three ways

-- a test of a register that holds a word
tested : (o : Option ℕ) (e : End) (sense : Bool) (h k to t : ℕ) (post : List Instr) (s : State) (slots regs : List ℕ) → Tied slots regs → Leads e o (Word e h k t t (test sense k to ∷ post) s regs) → Leads e o (Jump e sense to (h + 1) t post s regs)
tested None e sense h k to t post s slots regs tied g = g
tested (Some v) e sense h k to t post s slots regs tied g = record {
  after = g.after;
  comes = g.comes ∙ here_is h (test sense k to) post s g.after ∙ ap (λ a. follow a (run (h + 1) post)) (tests sense k to v h s g.after g.value (g.kept.top ∙ tied.zeros));
  kept = g.kept;
}

pub by_value_right : (h : ℕ) (slots : List ℕ) (s : State) (v : ℕ → ℕ → ℕ → List Instr) (n : ℕ) (o : Option ℕ) → ValueRight h slots s v o → ((d t here : ℕ) → length (v d t here) ≡ n) → Right h slots s (by_value v n) o
by_value_right h slots s v n o g long = record {
  value = g;
  branch = λ sense to t here post regs tied low room past.
      let c = v t t here in
      let q : here + length c + 1 ≡ here + (n + 1) = omega (arith, long t t here) in
      jump_from _ _ sense to _ _ t post s regs o (ap (λ l. run here l (at s here regs)) (append_assoc c (test sense t to ∷ []) post)) q
      (tested o _ sense (here + length c) t to t post s slots regs tied (g t t here (test sense t to ∷ post) regs tied low room (omega arith)));
  long = by_value_long v n long;
  homed = tt;
}

pub at_home_right : (k v : ℕ) (slots : List ℕ) (s : State) → HomeAt slots k (Some v) → Right 0 slots s (at_home k) (Some v)
at_home_right k v slots s st = record {
  value = λ d t here post regs tied low room le.
      puts (Mov d k) _ here d t v post s regs regs (omega arith) tied.long (kept_same t t regs) refl (let hx = reads regs tied in rw hx);
  branch = λ sense to t here post regs tied low room past.
      tested (Some v) _ sense here k to t post s slots regs tied (record { after = regs; comes = refl; value = reads regs tied; kept = kept_same t t regs });
  long = at_home_long k;
  homed = st;
}
  where
    reads : (regs : List ℕ) → Tied slots regs → slice_get regs k ≡ Some v
    reads regs tied = st.reads regs tied ∙ sym st.is

-- 1 or 0 by a jump
set_by : (b : Bool) (e : End) (v h d t : ℕ) (post : List Instr) (s : State) (slots regs after : List ℕ) → truth v ≡ b → v ≡ bit b → Tied slots regs → Kept t t regs after → d < 15
    → e ≡ run h (SetL d 1 ∷ Jmp (h + 3) ∷ SetL d 0 ∷ post) (at s (led false b (h + 2) h) after) → Word e (h + 3) d d t post s regs v
set_by true e v h d t post s slots regs after hb hv tied k lt q =
    let g = puts (SetL d 1) e h d t 1 (Jmp (h + 3) ∷ SetL d 0 ∷ post) s regs after lt (k.long ∙ tied.long) k q refl in
    let w : Word e (h + 3) d d t post s regs 1 = record {
      after = g.after;
      comes = g.comes ∙ here_is (h + 1) (Jmp (h + 3)) (SetL d 0 ∷ post) s g.after ∙ pass (SetL d 0 ∷ []) post (h + 1 + 1) (h + 3) s g.after (omega arith) ∙ ap (λ p. run p post (at s (h + 3) g.after)) (let z : h + 1 + 1 + 1 ≡ h + 3 = omega arith in z);
      value = g.value;
      kept = g.kept;
    } in
    subst (Word e (h + 3) d d t post s regs) (sym hv) w
set_by false e v h d t post s slots regs after hb hv tied k lt q =
    let z : h + 2 + 1 ≡ h + 3 = omega arith in
    let q2 = q ∙ pass (SetL d 1 ∷ Jmp (h + 3) ∷ []) (SetL d 0 ∷ post) h (h + 2) s after (omega arith) in
    subst (Word e (h + 3) d d t post s regs) (sym hv)
    (word_from e e (h + 2 + 1) (h + 3) d d t post s regs (Some 0) refl z (puts (SetL d 0) e (h + 2) d t 0 post s regs after lt (k.long ∙ tied.long) k q2 refl))

-- a word that is 1 or 0
abbrev pub IsBit : Option ℕ → Type 0
IsBit None = Unit {0}
IsBit (Some v) = v ≡ bit (truth v)

set_on : (o : Option ℕ) (e : End) (h d t : ℕ) (post : List Instr) (s : State) (slots regs : List ℕ) → IsBit o → Tied slots regs → d < 15
    → Leads e o (Jump e false (h + 2) h t (SetL d 1 ∷ Jmp (h + 3) ∷ SetL d 0 ∷ post) s regs) → Leads e o (Word e (h + 3) d d t post s regs)
set_on None e h d t post s slots regs hv tied lt g = g
set_on (Some v) e h d t post s slots regs hv tied lt g = set_by (truth v) e v h d t post s slots regs g.after refl hv tied g.kept lt g.comes

pub by_branch_right : (h : ℕ) (slots : List ℕ) (s : State) (c : Bool → ℕ → ℕ → ℕ → List Instr) (n : ℕ) (o : Option ℕ) → IsBit o → BranchRight h slots s c n o → ((sense : Bool) (to t here : ℕ) → length (c sense to t here) ≡ n) → Right h slots s (by_branch c n) o
by_branch_right h slots s c n o hv g long = record {
  value = λ d t here post regs tied low room le.
      let code = c false (here + n + 2) t here in
      let tail = SetL d 1 ∷ Jmp (here + n + 3) ∷ SetL d 0 ∷ [] in
      let q : here + n + 3 ≡ here + length (code ++ tail) = omega (arith, length-append code tail, long false (here + n + 2) t here) in
      word_from _ _ _ _ d d t post s regs o (ap (λ l. run here l (at s here regs)) (append_assoc code tail post)) q
      (set_on o _ (here + n) d t post s slots regs hv tied (omega arith) (g false (here + n + 2) t here (tail ++ post) regs tied low room (omega arith)));
  branch = g;
  long = by_branch_long c n long;
  homed = tt;
}

-- ---- operands

operand_by : (st o : Option ℕ) (v post : List Instr) (n here t : ℕ) (s : State) (slots regs : List ℕ) → Homed slots st o → Tied slots regs
    → Leads (run here (v ++ post) (at s here regs)) o (Word (run here (v ++ post) (at s here regs)) (here + n) t t t post s regs)
    → Leads (run here (unless_home st v ++ post) (at s here regs)) o (Word (run here (unless_home st v ++ post) (at s here regs)) (here + len_unless_home st n) (operand st t) t t post s regs)
operand_by None o v post n here t s slots regs st tied g = g
operand_by (Some k) o v post n here t s slots regs st tied g =
    let e = run here post (at s here regs) in
    let z : here ≡ here + 0 = omega arith in
    subst (λ w. Leads e w (Word e (here + 0) k t t post s regs)) (sym st.is)
    (record { after = regs; comes = ap (λ p. run p post (at s p regs)) z; value = st.reads regs tied; kept = kept_same t t regs })

pub operand_right : (h : ℕ) (slots : List ℕ) (s : State) (c : Code) (o : Option ℕ) → Right h slots s c o → (t here : ℕ) (post : List Instr) (regs : List ℕ) → Tied slots regs → 8 ≤ t → t + h < 15
    → Leads (run here (operand_code c t here ++ post) (at s here regs)) o (Word (run here (operand_code c t here ++ post) (at s here regs)) (here + operand_len c) (operand c.home t) t t post s regs)
operand_right h slots s c o r t here post regs tied low room =
    operand_by c.home o (c.value t t here) post c.value_len here t s slots regs r.homed tied
    (word_from _ _ _ _ t t t post s regs o refl (ap (λ n. here + n) (r.long.value t here)) (r.value t t here post regs tied low room (omega arith)))

retained : (st o : Option ℕ) (t : ℕ) (slots a b : List ℕ) → Homed slots st o → 8 ≤ t → Kept (t + 1) (t + 1) a b → slice_get b (operand st t) ≡ slice_get a (operand st t)
retained None o t slots a b st low k = k.low t (omega arith) (λ e. omega arith)
retained (Some r) o t slots a b st low k = by_low st.low
  where
    by_low : (r < 8) ⊎ (r ≡ 15) → slice_get b r ≡ slice_get a r
    by_low (inl lt) = k.low r (omega arith) (λ e. omega arith)
    by_low (inr e) = subst (λ i. slice_get b i ≡ slice_get a i) (sym e) k.top

abbrev pub both_word : (ℕ → ℕ → Option ℕ) → Option ℕ → Option ℕ → Option ℕ
both_word f None w = None
both_word f (Some x) None = None
both_word f (Some x) (Some y) = f x y

-- what is left to show behind two operands
abbrev pub Last : End → (ℕ → ℕ → Option ℕ) → (ℕ → Type 0) → (h2 ra rb t : ℕ) → List Instr → State → (slots regs : List ℕ) → Type 0
Last e f P h2 ra rb t rest s slots regs =
    (x y : ℕ) (regs2 : List ℕ) → e ≡ run h2 rest (at s h2 regs2) → slice_get regs2 ra ≡ Some x → slice_get regs2 rb ≡ Some y → Kept t t regs regs2 → Tied slots regs2 → Leads e (f x y) P

two_on : (oa ob : Option ℕ) (f : ℕ → ℕ → Option ℕ) (e : End) (P : ℕ → Type 0) (h1 h2 ra rb t : ℕ) (p1 p2 : List Instr) (s : State) (slots regs : List ℕ) → Tied slots regs → 8 ≤ t
    → ((a b : List ℕ) → Kept (t + 1) (t + 1) a b → slice_get b ra ≡ slice_get a ra)
    → Leads e oa (Word e h1 ra t t p1 s regs)
    → ((regs1 : List ℕ) → Tied slots regs1 → Leads (run h1 p1 (at s h1 regs1)) ob (Word (run h1 p1 (at s h1 regs1)) h2 rb (t + 1) (t + 1) p2 s regs1))
    → Last e f P h2 ra rb t p2 s slots regs
    → Leads e (both_word f oa ob) P
two_on None ob f e P h1 h2 ra rb t p1 p2 s slots regs tied low keep ga gb last = ga
two_on (Some x) None f e P h1 h2 ra rb t p1 p2 s slots regs tied low keep ga gb last = ga.comes ∙ gb ga.after (tied_on t t slots regs ga.after low low tied ga.kept)
two_on (Some x) (Some y) f e P h1 h2 ra rb t p1 p2 s slots regs tied low keep ga gb last =
    let tied1 = tied_on t t slots regs ga.after low low tied ga.kept in
    let b = gb ga.after tied1 in
    last x y b.after (ga.comes ∙ b.comes) (keep ga.after b.after b.kept ∙ ga.value) b.value (kept_on t t (t + 1) regs ga.after b.after (omega arith) ga.kept b.kept)
    (tied_on (t + 1) (t + 1) slots ga.after b.after (omega arith) (omega arith) tied1 b.kept)

pub two_right : (ha hb : ℕ) (slots : List ℕ) (s : State) (a b : Code) (oa ob : Option ℕ) → Right ha slots s a oa → Right hb slots s b ob
    → (f : ℕ → ℕ → Option ℕ) (t here : ℕ) (rest : List Instr) (regs : List ℕ) (P : ℕ → Type 0) → Tied slots regs → 8 ≤ t → t + ha < 15 → t + 1 + hb < 15
    → Last (run here (two_code a b t here ++ rest) (at s here regs)) f P (here + operand_len a + operand_len b) (operand a.home t) (operand b.home (t + 1)) t rest s slots regs
    → Leads (run here (two_code a b t here ++ rest) (at s here regs)) (both_word f oa ob) P
two_right ha hb slots s a b oa ob ra rb f t here rest regs P tied low rooma roomb last =
    let h1 = here + operand_len a in
    let ca = operand_code a t here in
    let cb = operand_code b (t + 1) h1 in
    two_on oa ob f (run here ((ca ++ cb) ++ rest) (at s here regs)) P h1 (h1 + operand_len b) (operand a.home t) (operand b.home (t + 1)) t (cb ++ rest) rest s slots regs tied low
    (λ x y k. retained a.home oa t slots x y ra.homed low k)
    (word_from _ _ _ _ (operand a.home t) t t (cb ++ rest) s regs oa (ap (λ l. run here l (at s here regs)) (append_assoc ca cb rest)) refl
    (operand_right ha slots s a oa ra t here (cb ++ rest) regs tied low rooma))
    (λ regs1 tied1. operand_right hb slots s b ob rb (t + 1) h1 rest regs1 tied1 (omega arith) roomb)
    last
