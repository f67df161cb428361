-- The longest prefix of bytes of one class.
use Rattle.std.proofs.Common.{◌≡◌, ℕ, suc, ◌+◌, ◌<◌, Bool, true, false, cond, List, [], ◌∷◌, ◌++◌, length, take, drop, refl, ap, arith}
use Rattle.std.specs.List.{prefix_len, list_all}
use Rattle.std.specs.Cmp.{first_so, second_so}
use Rattle.iter_syntax.specs.Spelling.{first_is}

pub one_more : (n : ℕ) → 1 + n ≡ suc n
one_more n = omega arith

passes_at : (p : ℕ → Bool) (x : ℕ) (xs : List ℕ) (b : Bool) → p x ≡ b → list_all p (take (prefix_len p xs) xs) ≡ true → list_all p (take (cond b (1 + prefix_len p xs) 0) (x ∷ xs)) ≡ true
passes_at p x xs true h r = rw (one_more, h) r
passes_at p x xs false h r = refl

pub prefix_passes : (p : ℕ → Bool) (xs : List ℕ) → list_all p (take (prefix_len p xs) xs) ≡ true
prefix_passes p [] = refl
prefix_passes p (x ∷ xs) = passes_at p x xs (p x) refl (prefix_passes p xs)

stops_at : (p : ℕ → Bool) (x : ℕ) (xs : List ℕ) (b : Bool) → p x ≡ b → first_is p (drop (prefix_len p xs) xs) ≡ false → first_is p (drop (cond b (1 + prefix_len p xs) 0) (x ∷ xs)) ≡ false
stops_at p x xs true h r = rw one_more r
stops_at p x xs false h r = h

pub prefix_stops : (p : ℕ → Bool) (xs : List ℕ) → first_is p (drop (prefix_len p xs) xs) ≡ false
prefix_stops p [] = refl
prefix_stops p (x ∷ xs) = stops_at p x xs (p x) refl (prefix_stops p xs)

-- a row of such bytes before another byte is the longest prefix
pub prefix_whole : (p : ℕ → Bool) (u v : List ℕ) → list_all p u ≡ true → first_is p v ≡ false → prefix_len p (u ++ v) ≡ length u
prefix_whole p [] [] a s = refl
prefix_whole p [] (y ∷ ys) a s = rw s
prefix_whole p (x ∷ xs) v a s = rw (first_so (p x) _ a, one_more) (ap suc (prefix_whole p xs v (second_so (p x) _ a) s))

-- the first byte stays where such bytes go on with the row
pub first_kept : (p q : ℕ → Bool) (xs : List ℕ) → ((c : ℕ) → q c ≡ true → p c ≡ true) → first_is q xs ≡ true → first_is q (take (prefix_len p xs) xs) ≡ true
first_kept p q [] f h = h
first_kept p q (x ∷ xs) f h = rw (f x h, one_more) h

pub first_some : (q : ℕ → Bool) (xs : List ℕ) → first_is q xs ≡ true → 0 < length xs
first_some q [] h = cc
first_some q (x ∷ xs) h = omega arith

pub first_append : (q : ℕ → Bool) (xs ys : List ℕ) → first_is q xs ≡ true → first_is q (xs ++ ys) ≡ true
first_append q [] ys h = cc
first_append q (x ∷ xs) ys h = h
