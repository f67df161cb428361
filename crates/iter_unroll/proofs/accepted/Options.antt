-- What is there, and holds.
use Rattle.std.proofs.Common.{◌≡◌, ℕ, ◌<◌, Bool, true, false, Option, Some, None, option_map, option_and_then, nat_lt, if◌then◌else◌, refl, arith}
use Rattle.iter_unroll.specs.Flat.{Fs}
use Rattle.iter_unroll.specs.unrolling.Scope.{map2, map3, map4}
use Rattle.iter_unroll.specs.unrolling.Flattened.{if_room}
use Rattle.iter_unroll.specs.unrolling.Tied.{Never}

abbrev pub Is : {A : Type 0} → Option A → (A → Type 0) → Type 0
Is None P = Never
Is (Some x) P = P x

pub never : {A : Type 0} → Never → A
never h = cc

pub is_map : {A B : Type 0} (h : A → B) (o : Option A) (P : A → Type 0) (Q : B → Type 0) → Is o P → ((x : A) → P x → Q (h x)) → Is (option_map h o) Q
is_map h None P Q p f = never p
is_map h (Some x) P Q p f = f x p

pub is_then : {A B : Type 0} (h : A → Option B) (o : Option A) (P : A → Type 0) (Q : B → Type 0) → Is o P → ((x : A) → P x → Is (h x) Q) → Is (option_and_then h o) Q
is_then h None P Q p f = never p
is_then h (Some x) P Q p f = f x p

pub is_two : {A B C : Type 0} (h : A → B → C) (a : Option A) (b : Option B) (P : A → Type 0) (Q : B → Type 0) (R : C → Type 0) → Is a P → Is b Q → ((x : A) (y : B) → P x → Q y → R (h x y)) → Is (map2 h a b) R
is_two h None b P Q R p q f = never p
is_two h (Some x) None P Q R p q f = never q
is_two h (Some x) (Some y) P Q R p q f = f x y p q

pub is_three : {A B C D : Type 0} (h : A → B → C → D) (a : Option A) (b : Option B) (c : Option C) (P : A → Type 0) (Q : B → Type 0) (R : C → Type 0) (S : D → Type 0) → Is a P → Is b Q → Is c R → ((x : A) (y : B) (z : C) → P x → Q y → R z → S (h x y z)) → Is (map3 h a b c) S
is_three h None b c P Q R S p q r f = never p
is_three h (Some x) b c P Q R S p q r f = is_two (h x) b c Q R S q r (λ y z hy hz. f x y z p hy hz)

pub is_four : {A B C D E : Type 0} (h : A → B → C → D → E) (a : Option A) (b : Option B) (c : Option C) (d : Option D) (P : A → Type 0) (Q : B → Type 0) (R : C → Type 0) (S : D → Type 0) (W : E → Type 0) → Is a P → Is b Q → Is c R → Is d S → ((x : A) (y : B) (z : C) (u : D) → P x → Q y → R z → S u → W (h x y z u)) → Is (map4 h a b c d) W
is_four h None b c d P Q R S W p q r s f = never p
is_four h (Some x) b c d P Q R S W p q r s f = is_three (h x) b c d Q R S W q r s (λ y z u hy hz hu. f x y z u p hy hz hu)

room_case : (b : Bool) (n : ℕ) (o : Option Fs) (P : Fs → Type 0) → nat_lt n 8 ≡ b → n < 8 → Is o P → Is (if b then o else None) P
room_case true n o P e h i = i
room_case false n o P e h i = absurd (grind arith)

pub is_roomy : (n : ℕ) (o : Option Fs) (P : Fs → Type 0) → n < 8 → Is o P → Is (if_room n o) P
is_roomy n o P h i = room_case (nat_lt n 8) n o P refl h i
