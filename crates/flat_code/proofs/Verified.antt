-- Code whose instructions keep the rules one by one is verified.
use Rattle.std.proofs.Common.{◌≡◌, ℕ, zero, suc, ◌+◌, ◌<◌, ◌≤◌, Bool, true, false, not, ◌&&◌, ◌||◌, nat_eq, nat_lt, nat_le, List, [], ◌∷◌, length, Option, Some, None, All, refl, ap, subst, arith}
use Rattle.std.specs.Prelude.{slice_get}
use Rattle.std.proofs.lemmas.Bool.{lt-ltb, le-leb, and_from}
use Rattle.std.proofs.lemmas.List.Elements.{All-nil, All-cons}
use Rattle.pulse_isa.specs.declared.instr.Instr.{Instr}
use Rattle.pulse_isa.specs.declared.instr.Instr.TheVariants.{Load, GetW, PutW, GetP, PutP, GetC, SetL, SetH, Mov, Add, Sub, Mul, Div, Mod, And, Or, Xor, Not, Shl, Shr, Jmp, Jeq, Jne, Jlt, Jle, Return, NextIter}
use Rattle.pulse_isa.specs.Spelling.{HasSpelling}
use Rattle.pulse_isa.specs.Step.{Window}
use Rattle.code_verify.specs.declared.bad.Sizes.{Sizes}
use Rattle.code_verify.specs.declared.bad.BadKind.{BadKind}
use Rattle.code_verify.specs.Rules.{is_load, is_end, registers_fit, window_fits, pad_fits, target_of, jump_fits, unless, broken_in, Verified}
use Rattle.code_verify.specs.Fits.{FitsTwo, FitsThree, GoesUp}
use Rattle.flat_code.specs.Frame.{Frame}
use Rattle.flat_code.proofs.Sound.{OneFits, FitAll}

-- ---- one instruction

-- what the rules say, but of LOAD
record Rules (sizes : Sizes) (window : Window) (len p : ℕ) (i : Instr) : Type 0 where
  registers : registers_fit i ≡ true
  seen : window_fits sizes.window window i ≡ true
  pad : pad_fits sizes.pad i ≡ true
  jump : jump_fits len p (target_of i) ≡ true
  ends : (nat_lt (p + 1) len || is_end i) ≡ true

kept : (b : Bool) (k : BadKind) (rest : Option BadKind) → b ≡ true → rest ≡ None → unless b k rest ≡ None
kept true k rest e r = r
kept false k rest e r = absurd cc

either : (b c : Bool) → b ≡ true → (b || c) ≡ true
either true c e = refl
either false c e = absurd cc

or_else : (b c : Bool) → c ≡ true → (b || c) ≡ true
or_else true c e = refl
or_else false c e = e

abbrev sizes_of : Frame → Sizes
sizes_of f = record { init = f.init; window = f.size; pad = f.pad }

follows : (len p : ℕ) (b : Bool) → p + 1 < len → (nat_lt (p + 1) len || b) ≡ true
follows len p b q = either (nat_lt (p + 1) len) b (lt-ltb (p + 1) len q)

two : (a b : ℕ) → a < 16 → b < 16 → (nat_lt a 16 && nat_lt b 16) ≡ true
two a b ha hb = and_from (nat_lt a 16) (nat_lt b 16) (lt-ltb a 16 ha) (lt-ltb b 16 hb)

three : (a b c : ℕ) → a < 16 → b < 16 → c < 16 → (nat_lt a 16 && nat_lt b 16 && nat_lt c 16) ≡ true
three a b c ha hb hc = and_from (nat_lt a 16 && nat_lt b 16) (nat_lt c 16) (two a b ha hb) (lt-ltb c 16 hc)

up : (len p to : ℕ) → GoesUp len p to → (nat_lt p to && nat_lt to len) ≡ true
up len p to h = and_from (nat_lt p to) (nat_lt to len) (lt-ltb p to h.above) (lt-ltb to len h.below)

computing : (len p a b c : ℕ) → FitsThree a b c len p → ((nat_lt a 16 && nat_lt b 16 && nat_lt c 16) ≡ true) × ((nat_lt (p + 1) len || false) ≡ true)
computing len p a b c h = (three a b c h.a_in h.b_in h.c_in, follows len p false h.next)

branching : (len p a b to : ℕ) → FitsTwo a b len p × GoesUp len p to → ((nat_lt a 16 && nat_lt b 16) ≡ true) × ((nat_lt p to && nat_lt to len) ≡ true) × ((nat_lt (p + 1) len || false) ≡ true)
branching len p a b to h = (two a b h.0.a_in h.0.b_in, up len p to h.1, follows len p false h.0.next)

rules : (f : Frame) (len p : ℕ) (i : Instr) → OneFits f len p i → Rules (sizes_of f) f.window len p i
rules f len p (Load off n) h = absurd (let k = h.plain in cc)
rules f len p (GetW a w o) h = record { registers = lt-ltb a 16 h.fits.0; seen = h.fits.1.inside; pad = refl; jump = refl; ends = follows len p false h.fits.2 }
rules f len p (PutW a w o) h = record { registers = lt-ltb a 16 h.fits.0; seen = h.fits.1.inside; pad = refl; jump = refl; ends = follows len p false h.fits.2 }
rules f len p (GetP a w o) h = record { registers = lt-ltb a 16 h.fits.0; seen = refl; pad = le-leb (o + w) f.pad h.fits.1.within; jump = refl; ends = follows len p false h.fits.2 }
rules f len p (PutP a w o) h = record { registers = lt-ltb a 16 h.fits.0; seen = refl; pad = le-leb (o + w) f.pad h.fits.1.within; jump = refl; ends = follows len p false h.fits.2 }
rules f len p (GetC a) h = record { registers = lt-ltb a 16 h.fits.0; seen = refl; pad = refl; jump = refl; ends = follows len p false h.fits.1 }
rules f len p (SetL a n) h = record { registers = lt-ltb a 16 h.fits.0; seen = refl; pad = refl; jump = refl; ends = follows len p false h.fits.1 }
rules f len p (SetH a n) h = record { registers = lt-ltb a 16 h.fits.0; seen = refl; pad = refl; jump = refl; ends = follows len p false h.fits.1 }
rules f len p (Mov a b) h = record { registers = two a b h.fits.a_in h.fits.b_in; seen = refl; pad = refl; jump = refl; ends = follows len p false h.fits.next }
rules f len p (Not a b) h = record { registers = two a b h.fits.a_in h.fits.b_in; seen = refl; pad = refl; jump = refl; ends = follows len p false h.fits.next }
rules f len p (Add a b c) h = let k = computing len p a b c h.fits in record { registers = k.0; seen = refl; pad = refl; jump = refl; ends = k.1 }
rules f len p (Sub a b c) h = let k = computing len p a b c h.fits in record { registers = k.0; seen = refl; pad = refl; jump = refl; ends = k.1 }
rules f len p (Mul a b c) h = let k = computing len p a b c h.fits in record { registers = k.0; seen = refl; pad = refl; jump = refl; ends = k.1 }
rules f len p (Div a b c) h = let k = computing len p a b c h.fits in record { registers = k.0; seen = refl; pad = refl; jump = refl; ends = k.1 }
rules f len p (Mod a b c) h = let k = computing len p a b c h.fits in record { registers = k.0; seen = refl; pad = refl; jump = refl; ends = k.1 }
rules f len p (And a b c) h = let k = computing len p a b c h.fits in record { registers = k.0; seen = refl; pad = refl; jump = refl; ends = k.1 }
rules f len p (Or a b c) h = let k = computing len p a b c h.fits in record { registers = k.0; seen = refl; pad = refl; jump = refl; ends = k.1 }
rules f len p (Xor a b c) h = let k = computing len p a b c h.fits in record { registers = k.0; seen = refl; pad = refl; jump = refl; ends = k.1 }
rules f len p (Shl a b c) h = let k = computing len p a b c h.fits in record { registers = k.0; seen = refl; pad = refl; jump = refl; ends = k.1 }
rules f len p (Shr a b c) h = let k = computing len p a b c h.fits in record { registers = k.0; seen = refl; pad = refl; jump = refl; ends = k.1 }
rules f len p (Jmp to) h = record { registers = refl; seen = refl; pad = refl; jump = up len p to h.fits; ends = follows len p false (let a = h.fits.above in let b = h.fits.below in omega (arith, a, b)) }
rules f len p (Jeq a b to) h = let k = branching len p a b to h.fits in record { registers = k.0; seen = refl; pad = refl; jump = k.1; ends = k.2 }
rules f len p (Jne a b to) h = let k = branching len p a b to h.fits in record { registers = k.0; seen = refl; pad = refl; jump = k.1; ends = k.2 }
rules f len p (Jlt a b to) h = let k = branching len p a b to h.fits in record { registers = k.0; seen = refl; pad = refl; jump = k.1; ends = k.2 }
rules f len p (Jle a b to) h = let k = branching len p a b to h.fits in record { registers = k.0; seen = refl; pad = refl; jump = k.1; ends = k.2 }
rules f len p Return h = record { registers = refl; seen = refl; pad = refl; jump = refl; ends = or_else (nat_lt (p + 1) len) true refl }
rules f len p (NextIter a) h = record { registers = lt-ltb a 16 h.fits; seen = refl; pad = refl; jump = refl; ends = or_else (nat_lt (p + 1) len) true refl }

unbroken : (f : Frame) (len p : ℕ) (i : Instr) → 0 < p → OneFits f len p i → broken_in (sizes_of f) f.window len p i ≡ None
unbroken f len p i past h =
    let r = rules f len p i h in
    kept _ _ _ (either (nat_lt 0 p) (is_load i) (lt-ltb 0 p past)) (
    kept _ _ _ (or_else (nat_eq p 0) (not (is_load i)) (ap not h.plain)) (
    kept _ _ _ r.registers (
    kept _ _ _ h.kind (
    kept _ _ _ r.seen (
    kept _ _ _ r.pad (
    kept _ _ _ r.jump (
    kept _ _ _ r.ends refl)))))))

spelled : (f : Frame) (len p : ℕ) (i : Instr) → OneFits f len p i → HasSpelling i
spelled f len p (GetW a w o) h = h.fits.1.bytes.width
spelled f len p (PutW a w o) h = h.fits.1.bytes.width
spelled f len p (GetP a w o) h = h.fits.1.width
spelled f len p (PutP a w o) h = h.fits.1.width
spelled f len p _ h = refl

-- ---- all of them

fit_at : (f : Frame) (len p k : ℕ) (is : List Instr) (i : Instr) → FitAll f len p is → slice_get is k ≡ Some i → OneFits f len (p + k) i
fit_at f len p k [] i h e = absurd cc
fit_at f len p zero (j ∷ is) i h e =
    let z : p ≡ p + 0 = omega arith in
    let same : j ≡ i = cc in
    subst (λ q. OneFits f len q i) z (subst (OneFits f len p) same h.0)
fit_at f len p (suc k) (j ∷ is) i h e =
    let z : p + 1 + k ≡ p + suc k = omega arith in
    subst (λ q. OneFits f len q i) z (fit_at f len (p + 1) k is i h.1 e)

all_spelled : (f : Frame) (len p : ℕ) (is : List Instr) → FitAll f len p is → All HasSpelling is
all_spelled f len p [] h = All-nil HasSpelling
all_spelled f len p (i ∷ is) h = All-cons HasSpelling i is (spelled f len p i h.0) (all_spelled f len (p + 1) is h.1)

loads : (sizes : Sizes) (off n len : ℕ) → off + n ≤ sizes.window → 1 < len → broken_in sizes (record { off = off; len = n }) len 0 (Load off n) ≡ None
loads sizes off n len within next =
    kept (nat_le (off + n) sizes.window) _ _ (le-leb (off + n) sizes.window within) (kept (nat_lt (0 + 1) len || false) _ _ (follows len 0 false (omega (arith, next))) refl)

-- code that begins with a LOAD of the frame's window
pub verified : (f : Frame) (is : List Instr) →
    let code = Load f.window.off f.window.len ∷ is in
    f.window.off + f.window.len ≤ f.size → 1 < length code → length code ≤ 8192 → FitAll f (length code) 1 is
    → Verified (record { init = f.init; window = f.size; pad = f.pad }) code
verified f is within next short h =
    let code = Load f.window.off f.window.len ∷ is in
    record {
      some = omega arith;
      short = short;
      spelled = All-cons HasSpelling (Load f.window.off f.window.len) is refl (all_spelled f (length code) 1 is h);
      unbroken = λ place i lt e. by_place place i e;
    }
  where
    by_place : (place : ℕ) (i : Instr) → slice_get (Load f.window.off f.window.len ∷ is) place ≡ Some i → broken_in (record { init = f.init; window = f.size; pad = f.pad }) f.window (length (Load f.window.off f.window.len ∷ is)) place i ≡ None
    by_place zero i e =
        let same : Load f.window.off f.window.len ≡ i = cc in
        subst (λ j. broken_in (record { init = f.init; window = f.size; pad = f.pad }) f.window (length (Load f.window.off f.window.len ∷ is)) 0 j ≡ None) same
        (loads (record { init = f.init; window = f.size; pad = f.pad }) f.window.off f.window.len (length (Load f.window.off f.window.len ∷ is)) within next)
    by_place (suc k) i e =
        let z : 1 + k ≡ suc k = omega arith in
        unbroken f (length (Load f.window.off f.window.len ∷ is)) (suc k) i (omega arith)
        (subst (λ q. OneFits f (length (Load f.window.off f.window.len ∷ is)) q i) z (fit_at f (length (Load f.window.off f.window.len ∷ is)) 1 k is i h e))
