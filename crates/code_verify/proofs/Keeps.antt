-- Where no rule is broken, each rule holds, and the instruction fits its place.
use Rattle.std.proofs.Common.{◌≡◌, ℕ, ◌+◌, ◌<◌, ◌≤◌, Bool, true, false, not, ◌&&◌, ◌||◌, nat_eq, nat_lt, nat_le, List, [], ◌∷◌, length, Option, Some, None, refl, sym, ap, subst, arith}
use Rattle.std.specs.Prelude.{All}
use Rattle.std.specs.List.{slice_get}
use Rattle.std.proofs.lemmas.Bool.{ltb-true, leb-true, eqb-true}
use Rattle.std.proofs.lemmas.Option.{slice_get_within, get_or_from_slice_get}
use Rattle.std.proofs.lemmas.List.Elements.{All-get_or}
use Rattle.pulse_isa.specs.declared.instr.Instr.{Instr}
use Rattle.pulse_isa.specs.declared.instr.Instr.TheVariants.{Load, GetW, PutW, GetP, PutP, GetC, SetL, SetH, Mov, Add, Sub, Mul, Div, Mod, And, Or, Xor, Not, Shl, Shr, Jmp, Jeq, Jne, Jlt, Jle, Return, NextIter}
use Rattle.pulse_isa.specs.Bytes.{is_width}
use Rattle.pulse_isa.specs.Spelling.{HasSpelling}
use Rattle.pulse_isa.specs.Step.{Window, is_inside}
use Rattle.code_verify.specs.declared.bad.Sizes.{Sizes}
use Rattle.code_verify.specs.declared.bad.BadKind.{BadKind}
use Rattle.code_verify.specs.Rules.{is_load, is_end, window_of, registers_fit, kind_fits, window_fits, pad_fits, target_of, jump_fits, unless, broken_in, IsUnbrokenBelow, Verified}
use Rattle.code_verify.specs.Fits.{HasBytes, HasSeen, GoesUp, FitsTwo, FitsThree, FitsLoad, Fits}

-- ---- each rule

pub record Keeps (sizes : Sizes) (window : Window) (len place : ℕ) (i : Instr) : Type 0 where
  pub load : (nat_lt 0 place || is_load i) ≡ true
  pub one_load : (nat_eq place 0 || not (is_load i)) ≡ true
  pub registers : registers_fit i ≡ true
  pub kind : kind_fits sizes.init i ≡ true
  pub seen : window_fits sizes.window window i ≡ true
  pub pad : pad_fits sizes.pad i ≡ true
  pub jump : jump_fits len place (target_of i) ≡ true
  pub ends : (nat_lt (place + 1) len || is_end i) ≡ true

unless_none : (b : Bool) (k : BadKind) (rest : Option BadKind) → unless b k rest ≡ None → (b ≡ true) × (rest ≡ None)
unless_none true k rest e = (refl, e)
unless_none false k rest e = (cc, cc)

pub keeps : (sizes : Sizes) (window : Window) (len place : ℕ) (i : Instr) → broken_in sizes window len place i ≡ None → Keeps sizes window len place i
keeps sizes window len place i e0 =
    let e1 = unless_none _ _ _ e0 in
    let e2 = unless_none _ _ _ e1.1 in
    let e3 = unless_none _ _ _ e2.1 in
    let e4 = unless_none _ _ _ e3.1 in
    let e5 = unless_none _ _ _ e4.1 in
    let e6 = unless_none _ _ _ e5.1 in
    let e7 = unless_none _ _ _ e6.1 in
    let e8 = unless_none _ _ _ e7.1 in
    record { load = e1.0; one_load = e2.0; registers = e3.0; kind = e4.0; seen = e5.0; pad = e6.0; jump = e7.0; ends = e8.0 }

-- ---- as facts

both_true : (x y : Bool) → (x && y) ≡ true → (x ≡ true) × (y ≡ true)
both_true true y e = (refl, e)
both_true false y e = (e, absurd (cc))

no_end : (b : Bool) → (b || false) ≡ true → b ≡ true
no_end true e = refl
no_end false e = e

follows : (len place : ℕ) → (nat_lt (place + 1) len || false) ≡ true → place + 1 < len
follows len place e = ltb-true (place + 1) len (no_end _ e)

two_fit : (a b len place : ℕ) → (nat_lt a 16 && nat_lt b 16) ≡ true → place + 1 < len → FitsTwo a b len place
two_fit a b len place e next =
    let h = both_true _ _ e in
    record { a_in = ltb-true a 16 h.0; b_in = ltb-true b 16 h.1; next = next }

three_fit : (a b c len place : ℕ) → (nat_lt a 16 && nat_lt b 16 && nat_lt c 16) ≡ true → place + 1 < len → FitsThree a b c len place
three_fit a b c len place e next =
    let h = both_true _ _ e in
    let k = both_true _ _ h.0 in
    record { a_in = ltb-true a 16 k.0; b_in = ltb-true b 16 k.1; c_in = ltb-true c 16 h.1; next = next }

goes_up : (len place to : ℕ) → (nat_lt place to && nat_lt to len) ≡ true → GoesUp len place to
goes_up len place to e =
    let h = both_true _ _ e in
    record { above = ltb-true place to h.0; below = ltb-true to len h.1 }

-- what lies in the window lies in the record, since the window does
has_seen : (size : ℕ) (window : Window) (off w : ℕ) → window.off + window.len ≤ size → is_width w ≡ true → is_inside window off w ≡ true → HasSeen size window off w
has_seen size window off w whole width inside =
    let h = both_true (nat_le window.off off) (nat_le (off + w) (window.off + window.len)) inside in
    let last : off + w ≤ window.off + window.len = leb-true _ _ h.1 in
    record { inside = inside; bytes = record { width = width; within = omega (arith, last, whole) } }

has_bytes : (size off w : ℕ) → is_width w ≡ true → nat_le (off + w) size ≡ true → HasBytes size off w
has_bytes size off w width e = record { width = width; within = leb-true _ _ e }

at_first : (place : ℕ) → (nat_eq place 0 || false) ≡ true → place ≡ 0
at_first place e = eqb-true place 0 (no_end _ e)

load_fits : (size : ℕ) (window : Window) (len place off n : ℕ) → (place ≡ 0 → window ≡ record { off = off; len = n }) → (nat_eq place 0 || false) ≡ true → nat_le (off + n) size ≡ true → place + 1 < len → FitsLoad size window len place off n
load_fits size window len place off n names only within next =
    let first : place ≡ 0 = at_first place only in
    record { first = first; names = names first; within = leb-true _ _ within; next = next }

-- the instruction whose rules are kept fits its place
pub fits : (sizes : Sizes) (window : Window) (len place : ℕ) (i : Instr) → ((off n : ℕ) → i ≡ Load off n → place ≡ 0 → window ≡ record { off = off; len = n }) → window.off + window.len ≤ sizes.window → HasSpelling i → Keeps sizes window len place i → Fits sizes.window sizes.pad window len place i
fits sizes window len place (Load off n) names whole spelled k = load_fits sizes.window window len place off n (names off n refl) k.one_load k.seen (follows len place k.ends)
fits sizes window len place (GetW a w off) names whole spelled k = (ltb-true a 16 k.registers, has_seen sizes.window window off w whole spelled k.seen, follows len place k.ends)
fits sizes window len place (PutW a w off) names whole spelled k = (ltb-true a 16 k.registers, has_seen sizes.window window off w whole spelled k.seen, follows len place k.ends)
fits sizes window len place (GetP a w off) names whole spelled k = (ltb-true a 16 k.registers, has_bytes sizes.pad off w spelled k.pad, follows len place k.ends)
fits sizes window len place (PutP a w off) names whole spelled k = (ltb-true a 16 k.registers, has_bytes sizes.pad off w spelled k.pad, follows len place k.ends)
fits sizes window len place (GetC a) names whole spelled k = (ltb-true a 16 k.registers, follows len place k.ends)
fits sizes window len place (SetL a imm) names whole spelled k = (ltb-true a 16 k.registers, follows len place k.ends)
fits sizes window len place (SetH a imm) names whole spelled k = (ltb-true a 16 k.registers, follows len place k.ends)
fits sizes window len place (Mov a b) names whole spelled k = two_fit a b len place k.registers (follows len place k.ends)
fits sizes window len place (Add a b c) names whole spelled k = three_fit a b c len place k.registers (follows len place k.ends)
fits sizes window len place (Sub a b c) names whole spelled k = three_fit a b c len place k.registers (follows len place k.ends)
fits sizes window len place (Mul a b c) names whole spelled k = three_fit a b c len place k.registers (follows len place k.ends)
fits sizes window len place (Div a b c) names whole spelled k = three_fit a b c len place k.registers (follows len place k.ends)
fits sizes window len place (Mod a b c) names whole spelled k = three_fit a b c len place k.registers (follows len place k.ends)
fits sizes window len place (And a b c) names whole spelled k = three_fit a b c len place k.registers (follows len place k.ends)
fits sizes window len place (Or a b c) names whole spelled k = three_fit a b c len place k.registers (follows len place k.ends)
fits sizes window len place (Xor a b c) names whole spelled k = three_fit a b c len place k.registers (follows len place k.ends)
fits sizes window len place (Not a b) names whole spelled k = two_fit a b len place k.registers (follows len place k.ends)
fits sizes window len place (Shl a b c) names whole spelled k = three_fit a b c len place k.registers (follows len place k.ends)
fits sizes window len place (Shr a b c) names whole spelled k = three_fit a b c len place k.registers (follows len place k.ends)
fits sizes window len place (Jmp to) names whole spelled k = goes_up len place to k.jump
fits sizes window len place (Jeq a b to) names whole spelled k = (two_fit a b len place k.registers (follows len place k.ends), goes_up len place to k.jump)
fits sizes window len place (Jne a b to) names whole spelled k = (two_fit a b len place k.registers (follows len place k.ends), goes_up len place to k.jump)
fits sizes window len place (Jlt a b to) names whole spelled k = (two_fit a b len place k.registers (follows len place k.ends), goes_up len place to k.jump)
fits sizes window len place (Jle a b to) names whole spelled k = (two_fit a b len place k.registers (follows len place k.ends), goes_up len place to k.jump)
fits sizes window len place Return names whole spelled k = tt
fits sizes window len place (NextIter a) names whole spelled k = ltb-true a 16 k.registers

-- ---- in verified code

first_load : (sizes : Sizes) (code : List Instr) → 0 < length code → IsUnbrokenBelow (length code) sizes code → ((window_of code).off + (window_of code).len ≤ sizes.window)
first_load sizes [] some h = absurd (omega arith)
first_load sizes (Load off n ∷ is) some h =
    let k = keeps sizes (window_of (Load off n ∷ is)) (length (Load off n ∷ is)) 0 (Load off n) (h 0 (Load off n) some refl) in
    leb-true _ _ k.seen
first_load sizes (_ ∷ is) some h = omega arith

names_first : (code : List Instr) (place : ℕ) (i : Instr) → slice_get code place ≡ Some i → (off n : ℕ) → i ≡ Load off n → place ≡ 0 → window_of code ≡ record { off = off; len = n }
names_first [] place i stands off n loads first = absurd (omega (arith, slice_get_within [] place i stands))
names_first (j ∷ is) place i stands off n loads first =
    let at_first = subst (λ (p : ℕ). slice_get (j ∷ is) p ≡ Some i) first stands in
    let same : j ≡ Load off n = cc in
    ap (λ (x : Instr). window_of (x ∷ is)) same

spelled_at : (code : List Instr) → All HasSpelling code → (place : ℕ) (i : Instr) → slice_get code place ≡ Some i → HasSpelling i
spelled_at code spelled place i stands =
    subst HasSpelling (get_or_from_slice_get code place i i stands) (All-get_or HasSpelling code place i (slice_get_within code place i stands) spelled)

-- every instruction of verified code fits its place
pub fits_in : (sizes : Sizes) (code : List Instr) → Verified sizes code → (place : ℕ) (i : Instr) → slice_get code place ≡ Some i → Fits sizes.window sizes.pad (window_of code) (length code) place i
fits_in sizes code v place i stands =
    fits sizes (window_of code) (length code) place i
    (names_first code place i stands)
    (first_load sizes code v.some v.unbroken)
    (spelled_at code v.spelled place i stands)
    (keeps sizes (window_of code) (length code) place i (v.unbroken place i (slice_get_within code place i stands) stands))

-- past the first place no LOAD stands, and at the first nothing else
pub load_first : (sizes : Sizes) (code : List Instr) → Verified sizes code → (place : ℕ) (i : Instr) → slice_get code place ≡ Some i → is_load i ≡ false → 0 < place
load_first sizes code v place i stands other =
    let k = keeps sizes (window_of code) (length code) place i (v.unbroken place i (slice_get_within code place i stands) stands) in
    ltb-true 0 place (no_end _ (subst (λ (b : Bool). (nat_lt 0 place || b) ≡ true) other k.load))

pub jumps_up : (sizes : Sizes) (code : List Instr) → Verified sizes code → (place : ℕ) (i : Instr) (to : ℕ) → slice_get code place ≡ Some i → target_of i ≡ Some to → (place < to) × (to < length code)
jumps_up sizes code v place i to stands e =
    let k = keeps sizes (window_of code) (length code) place i (v.unbroken place i (slice_get_within code place i stands) stands) in
    let h = goes_up (length code) place to (subst (λ (t : Option ℕ). jump_fits (length code) place t ≡ true) e k.jump) in
    (h.above, h.below)
