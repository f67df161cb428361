-- A store changes the bytes of its field alone.
use Rattle.std.proofs.Common.{◌≡◌, ℕ, ◌+◌, ◌≤◌, Bool, true, false, List, ◌++◌, length, take, drop, nat_le, nat_lt, if◌then◌else◌, refl, sym, ap, subst, ◌∙◌, arith, append_assoc, length-append, length-take}
use Rattle.std.proofs.Math.Seq.{take-append_seam, drop-append_seam}
use Rattle.iter_syntax.specs.declared.tree.Width.{Width}
use Rattle.iter_check.specs.Layout.{width_bytes}
use Rattle.iter_check.specs.FieldValue.{bytes_of, item_at, write_at}
use Rattle.iter_check.specs.Laws.{StoresAlone, StoreLaw}
use Rattle.iter_check.proofs.LengthLaws.{length-bytes_of, length-write_at}

pub if_so : {A : Type 0} (b : Bool) (x y : A) → b ≡ true → (if b then x else y) ≡ x
if_so true x y e = refl
if_so false x y e = cc

pub write_alone : (bytes : List ℕ) (o : ℕ) (width : Width) (v : ℕ) → o + width_bytes width ≤ length bytes → StoresAlone bytes (write_at bytes o width v) o (width_bytes width) v
write_alone bytes o width v h =
    let w = width_bytes width in
    let a = take o bytes in
    let b = bytes_of w v in
    let d = drop (o + w) bytes in
    let fits : nat_le (o + w) (length bytes) ≡ true = grind arith in
    let is : write_at bytes o width v ≡ (a ++ b) ++ d = if_so (nat_le (o + w) (length bytes)) ((a ++ b) ++ d) bytes fits in
    let split : write_at bytes o width v ≡ a ++ (b ++ d) = is ∙ append_assoc a b d in
    let len_a : length a ≡ o = omega (arith, length-take o bytes) in
    let len_b : length b ≡ w = length-bytes_of w v in
    let len_ab : length (a ++ b) ≡ o + w = omega (arith, length-append a b, len_a, len_b) in
    let rest : drop o (write_at bytes o width v) ≡ b ++ d = ap (drop o) split ∙ ap (λ n. drop n (a ++ (b ++ d))) (sym len_a) ∙ drop-append_seam a (b ++ d) in
    record {
      size = length-write_at bytes o width v;
      front = ap (take o) split ∙ ap (λ n. take n (a ++ (b ++ d))) (sym len_a) ∙ take-append_seam a (b ++ d);
      field = ap (take w) rest ∙ ap (λ n. take n (b ++ d)) (sym len_b) ∙ take-append_seam b d;
      back = ap (drop (o + w)) is ∙ ap (λ n. drop n ((a ++ b) ++ d)) (sym len_ab) ∙ drop-append_seam (a ++ b) d;
    }

pub stores_alone : StoreLaw
stores_alone s i v bytes is_element h =
    let at = item_at s i in
    let within : nat_lt i s.count ≡ true = grind arith in
    subst (λ after. StoresAlone bytes after at (width_bytes s.width) v) (sym (if_so (nat_lt i s.count) (write_at bytes at s.width v) bytes within)) (write_alone bytes at s.width v h)
