-- A step of an instruction that fits its place is not stuck, so no run of verified code is.
use Rattle.std.proofs.Common.{◌≡◌, ◌≢◌, ℕ, zero, suc, ◌+◌, ◌-◌, ◌*◌, ◌/◌, ◌%◌, ◌^◌, ◌<◌, ◌≤◌, Bool, true, false, not, ◌&&◌, if◌then◌else◌, nat_eq, nat_lt, nat_le, bit_and, bit_or, bit_xor, List, [], ◌∷◌, ◌++◌, length, get_or, take, drop, slice_set, Option, Some, refl, sym, ap, ◌∙◌, subst, inl, inr, arith, length-set}
use Rattle.std.specs.List.{slice_get}
use Rattle.std.proofs.lemmas.Bool.{lt-ltb, le-leb, eq-eqb, and_from, cases_lt}
use Rattle.std.proofs.lemmas.Option.{slice_get-get_or}
use Rattle.pulse_isa.specs.declared.instr.Instr.{Instr}
use Rattle.pulse_isa.specs.declared.instr.Instr.TheVariants.{Load, GetW, PutW, GetP, PutP, GetC, SetL, SetH, Mov, Add, Sub, Mul, Div, Mod, And, Or, Xor, Not, Shl, Shr, Jmp, Jeq, Jne, Jlt, Jle, Return, NextIter}
use Rattle.pulse_isa.specs.Bytes.{is_width, number, low_bytes, number_at, stored_at}
use Rattle.pulse_isa.proofs.ByteLaws.{number_at-there, stored_at-there, length-stored}
use Rattle.pulse_isa.specs.Step.{Window, State, End, After, On, Ends, Goes, Stuck, given, reading, with_reg, with_regs, permitted, divisible, put, put_quotient, put_pad, put_bytes, jump_if, is_inside, step}
use Rattle.code_verify.specs.declared.bad.Sizes.{Sizes}
use Rattle.code_verify.specs.Run.{follow, run, start}
use Rattle.code_verify.specs.Rules.{is_load, window_of, Verified}
use Rattle.code_verify.specs.Fits.{HasSeen, FitsTwo, FitsThree, Fits}
use Rattle.code_verify.specs.Laws.{IsNeverStuck}
use Rattle.code_verify.proofs.Keeps.{fits_in, load_first}

-- what code is verified for, its window and its length
pub record Setting : Type 0 where
  pub sizes : Sizes
  pub window : Window
  pub len : ℕ

pub record Shape (g : Setting) (s : State) : Type 0 where
  pub regs : length s.regs ≡ 16
  pub bytes : length s.bytes ≡ g.sizes.window
  pub pad : length s.pad ≡ g.sizes.pad

-- a state past the first place
pub record Ready (g : Setting) (s : State) : Type 0 where
  pub shape : Shape g s
  pub loaded : s.window ≡ g.window

-- the state after a step from `place`
pub record Stands (g : Setting) (place : ℕ) (t : State) : Type 0 where
  pub ready : Ready g t
  pub above : place < t.place
  pub below : t.place < g.len

abbrev pub IsFine : Setting → ℕ → After → Type 0
IsFine g place (On t) = Stands g place t
IsFine g place (Ends end) = end ≢ Stuck

-- ---- what is there

fine_given : (g : Setting) (p : ℕ) (b : Bool) (after : After) → b ≡ true → IsFine g p after → IsFine g p (given b after)
fine_given g p b after e h = subst (λ (x : Bool). IsFine g p (given x after)) (sym e) h

fine_reading : {A : Type 0} (g : Setting) (p : ℕ) (o : Option A) (v : A) (f : A → After) → o ≡ Some v → IsFine g p (f v) → IsFine g p (reading o f)
fine_reading {A} g p o v f e h = subst (λ (x : Option A). IsFine g p (reading x f)) (sym e) h

fine_reg : (g : Setting) (s : State) (a : ℕ) (f : ℕ → After) → length s.regs ≡ 16 → a < 16 → ((v : ℕ) → IsFine g s.place (f v)) → IsFine g s.place (with_reg s a f)
fine_reg g s a f len a_in h = fine_reading g s.place (slice_get s.regs a) (get_or s.regs a 0) f (slice_get-get_or s.regs a 0 (omega arith)) (h (get_or s.regs a 0))

fine_pair : (g : Setting) (s : State) (b c : ℕ) (f : ℕ → ℕ → After) → length s.regs ≡ 16 → b < 16 → c < 16 → ((x y : ℕ) → IsFine g s.place (f x y)) → IsFine g s.place (with_regs s b c f)
fine_pair g s b c f len b_in c_in h = fine_reg g s b (λ x. with_reg s c (λ y. f x y)) len b_in (λ x. fine_reg g s c (λ y. f x y) len c_in (h x))

fine_permitted : (g : Setting) (p : ℕ) (b : Bool) (after : After) → IsFine g p after → IsFine g p (permitted b after)
fine_permitted g p true after h = h
fine_permitted g p false after h = λ e. cc

fine_divisible : (g : Setting) (p y : ℕ) (after : After) → IsFine g p after → IsFine g p (divisible y after)
fine_divisible g p zero after h = λ e. cc
fine_divisible g p (suc y) after h = h

-- ---- the next state

fine_put : (g : Setting) (a v : ℕ) (s : State) → Ready g s → a < 16 → s.place + 1 < g.len → IsFine g s.place (put a v s)
fine_put g a v s r a_in next =
    let t : State = record s { place = s.place + 1; regs = slice_set s.regs a v } in
    let long : length s.regs ≡ 16 = r.shape.regs in
    let there : a < length s.regs = omega (arith, long) in
    let kept : length (slice_set s.regs a v) ≡ 16 = length-set s.regs a v ∙ long in
    fine_given g s.place (nat_lt a (length s.regs)) (On t) (lt-ltb a (length s.regs) there)
    (record { ready = record { shape = record { regs = kept; bytes = r.shape.bytes; pad = r.shape.pad }; loaded = r.loaded }; above = omega arith; below = next })

fine_put_pad : (g : Setting) (pad : List ℕ) (s : State) → Ready g s → length pad ≡ length s.pad → s.place + 1 < g.len → IsFine g s.place (put_pad pad s)
fine_put_pad g pad s r same next =
    record { ready = record { shape = record { regs = r.shape.regs; bytes = r.shape.bytes; pad = same ∙ r.shape.pad }; loaded = r.loaded }; above = omega arith; below = next }

fine_put_bytes : (g : Setting) (bytes : List ℕ) (s : State) → Ready g s → length bytes ≡ length s.bytes → s.place + 1 < g.len → IsFine g s.place (put_bytes bytes s)
fine_put_bytes g bytes s r same next =
    record { ready = record { shape = record { regs = r.shape.regs; bytes = same ∙ r.shape.bytes; pad = r.shape.pad }; loaded = r.loaded }; above = omega arith; below = next }

fine_jump : (g : Setting) (b : Bool) (to : ℕ) (s : State) → Ready g s → s.place < to → to < g.len → s.place + 1 < g.len → IsFine g s.place (jump_if b to s)
fine_jump g true to s r above below next = record { ready = record { shape = record { regs = r.shape.regs; bytes = r.shape.bytes; pad = r.shape.pad }; loaded = r.loaded }; above = above; below = below }
fine_jump g false to s r above below next = record { ready = record { shape = record { regs = r.shape.regs; bytes = r.shape.bytes; pad = r.shape.pad }; loaded = r.loaded }; above = omega arith; below = next }

-- ---- by the shapes of the table's lines

fine_get : (g : Setting) (b : Bool) (bytes : List ℕ) (off w a : ℕ) (s : State) → Ready g s → b ≡ true → off + w ≤ length bytes → a < 16 → s.place + 1 < g.len → IsFine g s.place (given b (reading (number_at bytes off w) (λ v. put a v s)))
fine_get g b bytes off w a s r holds within a_in next =
    fine_given g s.place b (reading (number_at bytes off w) (λ v. put a v s)) holds
    (fine_reading g s.place (number_at bytes off w) (number (take w (drop off bytes))) (λ v. put a v s) (number_at-there bytes off w within) (fine_put g a (number (take w (drop off bytes))) s r a_in next))

fine_store : (g : Setting) (b : Bool) (bytes : List ℕ) (off w a : ℕ) (f : List ℕ → After) (s : State) → Ready g s → b ≡ true → off + w ≤ length bytes → a < 16 → ((now : List ℕ) → length now ≡ length bytes → IsFine g s.place (f now)) → IsFine g s.place (given b (with_reg s a (λ v. reading (stored_at bytes off w v) f)))
fine_store g b bytes off w a f s r holds within a_in h =
    fine_given g s.place b (with_reg s a (λ v. reading (stored_at bytes off w v) f)) holds
    (fine_reg g s a (λ v. reading (stored_at bytes off w v) f) r.shape.regs a_in
    (λ v. fine_reading g s.place (stored_at bytes off w v) (take off bytes ++ low_bytes w v ++ drop (off + w) bytes) f (stored_at-there bytes off w v within) (h _ (length-stored bytes off w v within))))

fine_unary : (g : Setting) (h : ℕ → ℕ) (a b : ℕ) (s : State) → Ready g s → a < 16 → b < 16 → s.place + 1 < g.len → IsFine g s.place (with_reg s b (λ x. put a (h x) s))
fine_unary g h a b s r a_in b_in next = fine_reg g s b (λ x. put a (h x) s) r.shape.regs b_in (λ x. fine_put g a (h x) s r a_in next)

fine_binary : (g : Setting) (h : ℕ → ℕ → ℕ) (a b c : ℕ) (s : State) → Ready g s → FitsThree a b c g.len s.place → IsFine g s.place (with_regs s b c (λ x y. put a (h x y) s))
fine_binary g h a b c s r f = fine_pair g s b c (λ x y. put a (h x y) s) r.shape.regs f.b_in f.c_in (λ x y. fine_put g a (h x y) s r f.a_in f.next)

fine_division : (g : Setting) (h : ℕ → ℕ → ℕ) (a b c : ℕ) (s : State) → Ready g s → FitsThree a b c g.len s.place → IsFine g s.place (with_regs s b c (λ x y. put_quotient a y (h x y) s))
fine_division g h a b c s r f =
    let long : length s.regs ≡ 16 = r.shape.regs in
    let a_in : a < 16 = f.a_in in
    let there : a < length s.regs = omega (arith, long, a_in) in
    fine_pair g s b c (λ x y. put_quotient a y (h x y) s) r.shape.regs f.b_in f.c_in
    (λ x y. fine_given g s.place (nat_lt a (length s.regs)) (divisible y (put a (h x y) s)) (lt-ltb a (length s.regs) there) (fine_divisible g s.place y (put a (h x y) s) (fine_put g a (h x y) s r f.a_in f.next)))

fine_branch : (g : Setting) (test : ℕ → ℕ → Bool) (a b to : ℕ) (s : State) → Ready g s → FitsTwo a b g.len s.place → s.place < to → to < g.len → IsFine g s.place (with_regs s a b (λ x y. jump_if (test x y) to s))
fine_branch g test a b to s r f above below =
    fine_pair g s a b (λ x y. jump_if (test x y) to s) r.shape.regs f.a_in f.b_in (λ x y. fine_jump g (test x y) to s r above below f.next)

-- ---- each instruction

may_see : (g : Setting) (s : State) (off w : ℕ) → s.window ≡ g.window → HasSeen g.sizes.window g.window off w → (is_width w && is_inside s.window off w) ≡ true
may_see g s off w loaded h =
    and_from (is_width w) (is_inside s.window off w) h.bytes.width
    (ap (λ (x : Window). is_inside x off w) loaded ∙ h.inside)

pub fine_step : (g : Setting) (i : Instr) (s : State) → Shape g s → (is_load i ≡ false → s.window ≡ g.window) → Fits g.sizes.window g.sizes.pad g.window g.len s.place i → IsFine g s.place (step i s)
fine_step g (Load off n) s shape loaded f =
    let size : length s.bytes ≡ g.sizes.window = shape.bytes in
    let within : off + n ≤ g.sizes.window = f.within in
    let next : s.place + 1 < g.len = f.next in
    let t : State = record s { place = s.place + 1; window = record { off = off; len = n } } in
    fine_given g s.place (nat_le (off + n) (length s.bytes)) (On t) (le-leb (off + n) (length s.bytes) (omega (arith, size, within)))
    (record { ready = record { shape = record { regs = shape.regs; bytes = shape.bytes; pad = shape.pad }; loaded = sym f.names }; above = omega arith; below = next })
fine_step g (GetW a w off) s shape loaded f =
    let size : length s.bytes ≡ g.sizes.window = shape.bytes in
    let within : off + w ≤ g.sizes.window = f.1.bytes.within in
    fine_get g (is_width w && is_inside s.window off w) s.bytes off w a s (record { shape = shape; loaded = loaded refl }) (may_see g s off w (loaded refl) f.1) (omega (arith, size, within)) f.0 f.2
fine_step g (PutW a w off) s shape loaded f =
    let size : length s.bytes ≡ g.sizes.window = shape.bytes in
    let within : off + w ≤ g.sizes.window = f.1.bytes.within in
    let r : Ready g s = record { shape = shape; loaded = loaded refl } in
    fine_store g (is_width w && is_inside s.window off w) s.bytes off w a (λ bytes. permitted s.writable (put_bytes bytes s)) s r (may_see g s off w (loaded refl) f.1) (omega (arith, size, within)) f.0
    (λ now same. fine_permitted g s.place s.writable (put_bytes now s) (fine_put_bytes g now s r same f.2))
fine_step g (GetP a w off) s shape loaded f =
    let size : length s.pad ≡ g.sizes.pad = shape.pad in
    let within : off + w ≤ g.sizes.pad = f.1.within in
    fine_get g (is_width w) s.pad off w a s (record { shape = shape; loaded = loaded refl }) f.1.width (omega (arith, size, within)) f.0 f.2
fine_step g (PutP a w off) s shape loaded f =
    let size : length s.pad ≡ g.sizes.pad = shape.pad in
    let within : off + w ≤ g.sizes.pad = f.1.within in
    let r : Ready g s = record { shape = shape; loaded = loaded refl } in
    fine_store g (is_width w) s.pad off w a (λ pad. put_pad pad s) s r f.1.width (omega (arith, size, within)) f.0 (λ now same. fine_put_pad g now s r same f.2)
fine_step g (GetC a) s shape loaded f = fine_put g a s.cur s (record { shape = shape; loaded = loaded refl }) f.0 f.1
fine_step g (SetL a imm) s shape loaded f = fine_put g a imm s (record { shape = shape; loaded = loaded refl }) f.0 f.1
fine_step g (SetH a imm) s shape loaded f = fine_unary g (λ x. x % 2 ^ 32 + imm * 2 ^ 32) a a s (record { shape = shape; loaded = loaded refl }) f.0 f.0 f.1
fine_step g (Mov a b) s shape loaded f = fine_unary g (λ x. x) a b s (record { shape = shape; loaded = loaded refl }) f.a_in f.b_in f.next
fine_step g (Add a b c) s shape loaded f = fine_binary g (λ x y. (x + y) % 2 ^ 64) a b c s (record { shape = shape; loaded = loaded refl }) f
fine_step g (Sub a b c) s shape loaded f = fine_binary g (λ x y. (x + (2 ^ 64 - y)) % 2 ^ 64) a b c s (record { shape = shape; loaded = loaded refl }) f
fine_step g (Mul a b c) s shape loaded f = fine_binary g (λ x y. (x * y) % 2 ^ 64) a b c s (record { shape = shape; loaded = loaded refl }) f
fine_step g (Div a b c) s shape loaded f = fine_division g (λ x y. x / y) a b c s (record { shape = shape; loaded = loaded refl }) f
fine_step g (Mod a b c) s shape loaded f = fine_division g (λ x y. x % y) a b c s (record { shape = shape; loaded = loaded refl }) f
fine_step g (And a b c) s shape loaded f = fine_binary g bit_and a b c s (record { shape = shape; loaded = loaded refl }) f
fine_step g (Or a b c) s shape loaded f = fine_binary g bit_or a b c s (record { shape = shape; loaded = loaded refl }) f
fine_step g (Xor a b c) s shape loaded f = fine_binary g bit_xor a b c s (record { shape = shape; loaded = loaded refl }) f
fine_step g (Not a b) s shape loaded f = fine_unary g (λ x. 2 ^ 64 - 1 - x) a b s (record { shape = shape; loaded = loaded refl }) f.a_in f.b_in f.next
fine_step g (Shl a b c) s shape loaded f = fine_binary g (λ x y. (x * 2 ^ (y % 64)) % 2 ^ 64) a b c s (record { shape = shape; loaded = loaded refl }) f
fine_step g (Shr a b c) s shape loaded f = fine_binary g (λ x y. x / 2 ^ (y % 64)) a b c s (record { shape = shape; loaded = loaded refl }) f
fine_step g (Jmp to) s shape loaded f = record { ready = record { shape = record { regs = shape.regs; bytes = shape.bytes; pad = shape.pad }; loaded = loaded refl }; above = f.above; below = f.below }
fine_step g (Jeq a b to) s shape loaded f = fine_branch g nat_eq a b to s (record { shape = shape; loaded = loaded refl }) f.0 f.1.above f.1.below
fine_step g (Jne a b to) s shape loaded f = fine_branch g (λ x y. not (nat_eq x y)) a b to s (record { shape = shape; loaded = loaded refl }) f.0 f.1.above f.1.below
fine_step g (Jlt a b to) s shape loaded f = fine_branch g nat_lt a b to s (record { shape = shape; loaded = loaded refl }) f.0 f.1.above f.1.below
fine_step g (Jle a b to) s shape loaded f = fine_branch g nat_le a b to s (record { shape = shape; loaded = loaded refl }) f.0 f.1.above f.1.below
fine_step g Return s shape loaded f = λ e. cc
fine_step g (NextIter a) s shape loaded f = fine_reg g s a (λ x. Ends (Goes x s.bytes s.pad)) shape.regs f (λ x e. cc)

-- ---- the run

-- the places from `here` on
pub record Rest (g : Setting) (here : ℕ) (is : List Instr) : Type 0 where
  pub fits : (k : ℕ) (i : Instr) → slice_get is k ≡ Some i → Fits g.sizes.window g.sizes.pad g.window g.len (here + k) i
  pub later : (k : ℕ) (i : Instr) → slice_get is k ≡ Some i → is_load i ≡ false → 0 < here + k
  pub whole : here + length is ≡ g.len

rest_more : (g : Setting) (here : ℕ) (i : Instr) (is : List Instr) → Rest g here (i ∷ is) → Rest g (here + 1) is
rest_more g here i is r =
    let moved = λ (k : ℕ). let q : here + suc k ≡ here + 1 + k = omega arith in q in
    record {
      fits = λ k j stands. subst (λ (p : ℕ). Fits g.sizes.window g.sizes.pad g.window g.len p j) (moved k) (r.fits (suc k) j stands);
      later = λ k j stands other. subst (λ (p : ℕ). 0 < p) (moved k) (r.later (suc k) j stands other);
      whole = omega (arith, r.whole);
    }

follow_fine : (g : Setting) (p : ℕ) (after : After) (next : State → End) → IsFine g p after → ((t : State) → Stands g p t → next t ≢ Stuck) → follow after next ≢ Stuck
follow_fine g p (On t) next h k = k t h
follow_fine g p (Ends end) next h k = h

-- the state's place is still to come
pub record Comes (g : Setting) (here : ℕ) (s : State) : Type 0 where
  pub shape : Shape g s
  pub loaded : 0 < s.place → s.window ≡ g.window
  pub ahead : here ≤ s.place
  pub inside : s.place < g.len

comes : (g : Setting) (p : ℕ) (t : State) → Stands g p t → Comes g (p + 1) t
comes g p t h = record { shape = h.ready.shape; loaded = λ _. h.ready.loaded; ahead = omega (arith, h.above); inside = h.below }

run_fine : (g : Setting) (here : ℕ) (is : List Instr) → Rest g here is → (s : State) → Comes g here s → run here is s ≢ Stuck
run_fine g here [] r s c = absurd (omega (arith, r.whole, c.ahead, c.inside))
run_fine g here (i ∷ is) r s c =
    elim (cases_lt here s.place) [
      | inl p ↦
          let ne : nat_eq here s.place ≡ false = grind arith in
          let on : Comes g (here + 1) s = record { shape = c.shape; loaded = c.loaded; ahead = omega (arith, p); inside = c.inside } in
          subst (λ (b : Bool). (if b then follow (step i s) (run (here + 1) is) else run (here + 1) is s) ≢ Stuck) (sym ne) (run_fine g (here + 1) is (rest_more g here i is r) s on)
      | inr q ↦
          let same : here ≡ s.place = omega (arith, q, c.ahead) in
          let at0 : here + 0 ≡ s.place = omega (arith, same) in
          let f = subst (λ (p : ℕ). Fits g.sizes.window g.sizes.pad g.window g.len p i) at0 (r.fits 0 i refl) in
          let fine = fine_step g i s c.shape (λ other. c.loaded (subst (λ (p : ℕ). 0 < p) at0 (r.later 0 i refl other))) f in
          subst (λ (b : Bool). (if b then follow (step i s) (run (here + 1) is) else run (here + 1) is s) ≢ Stuck) (sym (eq-eqb here s.place same))
          (follow_fine g s.place (step i s) (run (here + 1) is) fine
          (λ t h. run_fine g (here + 1) is (rest_more g here i is r) t (subst (λ (p : ℕ). Comes g (p + 1) t) (sym same) (comes g s.place t h))))
    ]

pub never_stuck : (sizes : Sizes) (code : List Instr) → Verified sizes code → IsNeverStuck sizes code
never_stuck sizes code v bytes pad cur writable bytes_fit pad_fits =
    let g : Setting = record { sizes = sizes; window = window_of code; len = length code } in
    let at = λ (k : ℕ). let q : k ≡ 0 + k = omega arith in q in
    run_fine g 0 code
    (record {
      fits = λ k i stands. subst (λ (p : ℕ). Fits sizes.window sizes.pad (window_of code) (length code) p i) (at k) (fits_in sizes code v k i stands);
      later = λ k i stands other. subst (λ (p : ℕ). 0 < p) (at k) (load_first sizes code v k i stands other);
      whole = omega arith;
    })
    (start bytes pad cur writable)
    (record {
      shape = record { regs = refl; bytes = bytes_fit; pad = pad_fits };
      loaded = λ h. absurd (omega (arith, h));
      ahead = omega arith;
      inside = v.some;
    })
