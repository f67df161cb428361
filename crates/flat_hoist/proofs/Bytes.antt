-- A store leaves the bytes beside it.
use Rattle.std.proofs.Common.{◌≡◌, ℕ, zero, suc, ◌+◌, ◌-◌, ◌/◌, ◌≤◌, Bool, true, false, if◌then◌else◌, nat_le, List, [], ◌∷◌, ◌++◌, length, take, drop, ◌⊎◌, inl, inr, refl, sym, ap, ◌∙◌, arith, append_assoc, length-append}
use Rattle.std.proofs.lemmas.List.{drop-drop, length-take, take-append-drop}
use Rattle.std.proofs.Math.Seq.{drop-append-add}
use Rattle.iter_syntax.specs.declared.tree.Width.{Width}
use Rattle.iter_check.specs.Layout.{width_bytes}
use Rattle.iter_check.specs.FieldValue.{number_of, bytes_of, read_at, write_at}

-- the first bytes are the same, whatever follows
same_before : (p y z : List ℕ) (m n : ℕ) → m + n ≤ length p → take n (drop m (p ++ y)) ≡ take n (drop m (p ++ z))
same_before p y z zero zero h = refl
same_before [] y z (suc m) zero h = absurd (omega (arith, h))
same_before (b ∷ p) y z (suc m) zero h = same_before p y z m 0 (omega (arith, h))
same_before [] y z m (suc n) h = absurd (omega (arith, h))
same_before (b ∷ p) y z zero (suc n) h = ap (λ l. b ∷ l) (same_before p y z 0 n (omega (arith, h)))
same_before (b ∷ p) y z (suc m) (suc n) h = same_before p y z m (suc n) (omega (arith, h))

length_bytes : (n v : ℕ) → length (bytes_of n v) ≡ n
length_bytes zero v = refl
length_bytes (suc n) v = ap suc (length_bytes n (v / 256))

-- bytes past a part that others took the place of
same_after : (bytes : List ℕ) (o n v m : ℕ) → o + n ≤ length bytes → o + n ≤ m → drop m (take o bytes ++ bytes_of n v ++ drop (o + n) bytes) ≡ drop m bytes
same_after bytes o n v m h le =
    let p = take o bytes ++ bytes_of n v in
    let r = drop (o + n) bytes in
    let one = length-append (take o bytes) (bytes_of n v) in
    let two = length-take o bytes in
    let three = length_bytes n v in
    let long : length p ≡ o + n = omega (arith, one, two, three, h) in
    let at : length p + (m - (o + n)) ≡ m = omega (arith, long, le) in
    let back : o + n + (m - (o + n)) ≡ m = omega (arith, le) in
    ap (λ k. drop k (p ++ r)) (sym at)
    ∙ drop-append-add p r (m - (o + n))
    ∙ drop-drop (m - (o + n)) (o + n) bytes
    ∙ ap (λ k. drop k bytes) back

pub store_beside : (bytes : List ℕ) (o : ℕ) (w : Width) (v m : ℕ) (u : Width) → (m + width_bytes u ≤ o) ⊎ (o + width_bytes w ≤ m) → read_at (write_at bytes o w v) m u ≡ read_at bytes m u
store_beside bytes o w v m u h = beside (nat_le (o + width_bytes w) (length bytes)) refl h
  where
    beside : (b : Bool) → nat_le (o + width_bytes w) (length bytes) ≡ b → (m + width_bytes u ≤ o) ⊎ (o + width_bytes w ≤ m)
        → read_at (if b then take o bytes ++ bytes_of (width_bytes w) v ++ drop (o + width_bytes w) bytes else bytes) m u ≡ read_at bytes m u
    beside false e h = refl
    beside true e (inl le) =
        let room : o + width_bytes w ≤ length bytes = grind arith in
        let long = length-take o bytes in
        ap (λ l. number_of (take (width_bytes u) (drop m l))) (append_assoc (take o bytes) (bytes_of (width_bytes w) v) (drop (o + width_bytes w) bytes))
        ∙ ap number_of
        (same_before (take o bytes) (bytes_of (width_bytes w) v ++ drop (o + width_bytes w) bytes) (drop o bytes) m (width_bytes u) (omega (arith, le, long, room))
        ∙ ap (λ l. take (width_bytes u) (drop m l)) (take-append-drop o bytes))
    beside true e (inr le) =
        let room : o + width_bytes w ≤ length bytes = grind arith in
        ap (λ l. number_of (take (width_bytes u) l)) (same_after bytes o (width_bytes w) v m room le)
