-- What holds of a value, if there is one.
use Rattle.std.proofs.Common.{◌≡◌, ℕ, ◌<◌, Bool, true, false, Option, Some, None, option_map, option_and_then, IfSome, nat_lt, if◌then◌else◌, refl, arith}
use Rattle.iter_unroll.specs.Flat.{Fs}
use Rattle.iter_unroll.specs.unrolling.Scope.{map2, map3, map4}
use Rattle.iter_unroll.specs.unrolling.Flattened.{if_room}

pub if_map : {A B : Type 0} (o : Option A) (h : A → B) (P : A → Type 0) (Q : B → Type 0) → IfSome o P → ((x : A) → P x → Q (h x)) → IfSome (option_map h o) Q
if_map None h P Q p f = tt
if_map (Some x) h P Q p f = f x p

pub if_then : {A B : Type 0} (o : Option A) (h : A → Option B) (P : A → Type 0) (Q : B → Type 0) → IfSome o P → ((x : A) → P x → IfSome (h x) Q) → IfSome (option_and_then h o) Q
if_then None h P Q p f = tt
if_then (Some x) h P Q p f = f x p

pub if_two : {A B C : Type 0} (h : A → B → C) (a : Option A) (b : Option B) (P : A → Type 0) (Q : B → Type 0) (R : C → Type 0) → IfSome a P → IfSome b Q → ((x : A) (y : B) → P x → Q y → R (h x y)) → IfSome (map2 h a b) R
if_two h None b P Q R p q f = tt
if_two h (Some x) None P Q R p q f = tt
if_two h (Some x) (Some y) P Q R p q f = f x y p q

pub if_three : {A B C D : Type 0} (h : A → B → C → D) (a : Option A) (b : Option B) (c : Option C) (P : A → Type 0) (Q : B → Type 0) (R : C → Type 0) (S : D → Type 0) → IfSome a P → IfSome b Q → IfSome c R → ((x : A) (y : B) (z : C) → P x → Q y → R z → S (h x y z)) → IfSome (map3 h a b c) S
if_three h None b c P Q R S p q r f = tt
if_three h (Some x) b c P Q R S p q r f = if_two (h x) b c Q R S q r (λ y z hy hz. f x y z p hy hz)

pub if_four : {A B C D E : Type 0} (h : A → B → C → D → E) (a : Option A) (b : Option B) (c : Option C) (d : Option D) (P : A → Type 0) (Q : B → Type 0) (R : C → Type 0) (S : D → Type 0) (W : E → Type 0) → IfSome a P → IfSome b Q → IfSome c R → IfSome d S → ((x : A) (y : B) (z : C) (u : D) → P x → Q y → R z → S u → W (h x y z u)) → IfSome (map4 h a b c d) W
if_four h None b c d P Q R S W p q r s f = tt
if_four h (Some x) b c d P Q R S W p q r s f = if_three (h x) b c d Q R S W q r s (λ y z u hy hz hu. f x y z u p hy hz hu)

room_case : (b : Bool) (n : ℕ) (o : Option Fs) (P : Fs → Type 0) → nat_lt n 8 ≡ b → (n < 8 → IfSome o P) → IfSome (if b then o else None) P
room_case true n o P e f = f (grind arith)
room_case false n o P e f = tt

pub if_roomy : (n : ℕ) (o : Option Fs) (P : Fs → Type 0) → (n < 8 → IfSome o P) → IfSome (if_room n o) P
if_roomy n o P f = room_case (nat_lt n 8) n o P refl f
