-- Capped places, and bytes as numbers.
use Rattle.std.proofs.Common.{◌≡◌, ℕ, zero, suc, ◌+◌, ◌-◌, ◌*◌, ◌/◌, ◌%◌, ◌^◌, ◌<◌, ◌≤◌, min, nat_lt, Bool, true, false, List, [], ◌∷◌, ◌++◌, length, get_or, set, take, drop, refl, sym, ap, ◌∙◌, arith, if◌then◌else◌, Option, None, Some, unwrap_or, option_map, nat_le, length-set, append_assoc, add-one, drop-cons}
use Rattle.std.proofs.Math.Seq.{take-suc-set}
use Rattle.std.proofs.lemmas.List.{take_all, drop_all}
use Rattle.std.proofs.Math.Nat.{pow-le-pow_right}
use Rattle.std.proofs.lemmas.Grind.{pow_more}
use Rattle.std.specs.Prelude.{bytes_eq}
use Rattle.iter_syntax.specs.declared.tree.Width.{Width}
use Rattle.iter_syntax.specs.declared.tree.FieldDecl.{FieldDecl}
use Rattle.iter_check.specs.Layout.{Slot, text, elements, width_bytes, field_size, find_from}
use Rattle.iter_check.specs.FieldValue.{number_of, bytes_of, item_at, read_at, read_item}
use Rattle.iter_check.specs.declared.fields.Slot as r
use Rattle.iter_check.specs.Views.Slots.{slot_of, capped, item_start}
use Rattle.iter_check.proofs.StoreLaws.{if_so}

abbrev top : ℕ
top = 2 ^ 64 - 1

abbrev pub place : ℕ → Width → ℕ → Slot
place o w n = record { offset = o; width = w; count = n }

here_same : (o p : ℕ) (w : Width) (n : ℕ) → min o top ≡ min p top → capped (record { offset = o; width = w; count = n }) ≡ capped (record { offset = p; width = w; count = n })
here_same o p w n e = ap (λ m. record { offset = m; width = w; count = n }) e

same_case : (b : Bool) (x y : Slot) (r s : Option Slot) → capped x ≡ capped y → option_map capped r ≡ option_map capped s → option_map capped (if b then Some x else r) ≡ option_map capped (if b then Some y else s)
same_case true x y r s e h = ap (λ z. Some z) e
same_case false x y r s e h = h

-- offsets that are the same up to the cap give places that are
pub same_from : (name : List ℕ) (fs : List FieldDecl) (o p : ℕ) → min o top ≡ min p top → option_map capped (find_from o name fs) ≡ option_map capped (find_from p name fs)
same_from name [] o p e = refl
same_from name (f ∷ fs) o p e =
    same_case (bytes_eq (text f.name) name) (record { offset = o; width = f.width; count = elements f }) (record { offset = p; width = f.width; count = elements f }) _ _ (here_same o p f.width (elements f) e) (same_from name fs (o + field_size f) (p + field_size f) (omega arith))

pass_case : (b : Bool) (x : Slot) (r : Option Slot) → b ≡ false → option_map capped (if b then Some x else r) ≡ option_map capped r
pass_case true x r h = cc
pass_case false x r h = refl

-- a field with another name is passed over
pub passed : (fs : List FieldDecl) (f : FieldDecl) (i o p : ℕ) (name : List ℕ) → i < length fs → f ≡ get_or fs i f → bytes_eq (text f.name) name ≡ false → p ≡ min (o + min (elements f * width_bytes f.width) top) top → option_map capped (find_from o name (drop i fs)) ≡ option_map capped (find_from p name (drop (i + 1) fs))
passed fs f i o p name h e n q =
    ap (λ l. option_map capped (find_from o name l)) (drop-cons fs i f h ∙ ap (λ g. g ∷ drop (suc i) fs) (sym e))
    ∙ pass_case (bytes_eq (text f.name) name) (record { offset = o; width = f.width; count = elements f }) (find_from (o + field_size f) name (drop (suc i) fs)) n
    ∙ same_from name (drop (suc i) fs) (o + field_size f) p (omega arith)
    ∙ ap (λ k. option_map capped (find_from p name (drop k fs))) (sym (add-one i))

found_case : (b : Bool) (x : Slot) (r : Option Slot) → b ≡ true → Some (capped x) ≡ option_map capped (if b then Some x else r)
found_case true x r h = refl
found_case false x r h = cc

-- a field with the name is the one
pub found : (fs : List FieldDecl) (f : FieldDecl) (i o : ℕ) (name : List ℕ) → i < length fs → f ≡ get_or fs i f → bytes_eq (text f.name) name ≡ true → o ≤ top → Some (record { offset = o; width = f.width; count = elements f }) ≡ option_map capped (find_from o name (drop i fs))
found fs f i o name h e n q =
    ap (λ m. Some (record { offset = m; width = f.width; count = elements f })) (let z : o ≡ min o top = omega arith in z)
    ∙ found_case (bytes_eq (text f.name) name) (record { offset = o; width = f.width; count = elements f }) (find_from (o + field_size f) name (drop (suc i) fs)) n
    ∙ ap (λ l. option_map capped (find_from o name l)) (ap (λ g. g ∷ drop (suc i) fs) e ∙ sym (drop-cons fs i f h))

-- the number of bytes with one more before them
pub low_bound : (b n k : ℕ) → b < 256 → n < 256 ^ k → b + 256 * n < 256 ^ suc k
low_bound b n k h g = omega (arith, pow_more 256 k, ap (λ j. 256 ^ j) (add-one k))

pub low_fits : (b n k : ℕ) → b < 256 → n < 256 ^ k → k ≤ 7 → b + 256 * n < 2 ^ 64
low_fits b n k h g z =
    let p : 256 ^ k ≤ 256 ^ 7 = pow-le-pow_right (omega arith) z in
    omega (arith, p)

-- one byte more is filled
pub fill_one : (xs : List ℕ) (i left v : ℕ) → i < length xs → take i xs ++ bytes_of (length xs - i) left ≡ bytes_of (length xs) v → take (i + 1) (set xs i (left % 256)) ++ bytes_of (length (set xs i (left % 256)) - (i + 1)) (left / 256) ≡ bytes_of (length (set xs i (left % 256))) v
fill_one xs i left v h e =
    let len = length-set xs i (left % 256) in
    let k : length xs - i ≡ suc (length xs - (i + 1)) = omega arith in
    ap (λ n. take (i + 1) (set xs i (left % 256)) ++ bytes_of (n - (i + 1)) (left / 256)) len
    ∙ ap (λ n. take n (set xs i (left % 256)) ++ bytes_of (length xs - (i + 1)) (left / 256)) (add-one i)
    ∙ ap (λ l. l ++ bytes_of (length xs - (i + 1)) (left / 256)) (take-suc-set xs i (left % 256) h)
    ∙ append_assoc (take i xs) (left % 256 ∷ []) (bytes_of (length xs - (i + 1)) (left / 256))
    ∙ ap (λ n. take i xs ++ bytes_of n left) (sym k)
    ∙ e ∙ ap (λ n. bytes_of n v) (sym len)

-- a front that is cut at the list's end
pub take_cut : (xs : List ℕ) (n w : ℕ) → n ≤ w → min w (length xs) ≤ n → take n xs ≡ take w xs
take_cut [] n w h g = take_all n [] (omega arith) ∙ sym (take_all w [] (omega arith))
take_cut (x ∷ xs) zero zero h g = refl
take_cut (x ∷ xs) zero (suc w) h g = absurd (omega arith)
take_cut (x ∷ xs) (suc n) zero h g = absurd (omega arith)
take_cut (x ∷ xs) (suc n) (suc w) h g = ap (λ l. x ∷ l) (take_cut xs n w (omega arith) (omega arith))

-- nothing lies past the end
pub read_past : (bytes : List ℕ) (o : ℕ) (w : Width) → length bytes ≤ o → 0 ≡ read_at bytes o w
read_past bytes o w h = ap number_of (sym (ap (take (width_bytes w)) (drop_all o bytes h) ∙ take_all (width_bytes w) [] (omega arith)))

read_far_case : (b : Bool) (bytes : List ℕ) (o : ℕ) (w : Width) → nat_le o top ≡ b → length bytes ≤ top → read_at bytes (min o top) w ≡ read_at bytes o w
read_far_case true bytes o w e h = ap (λ p. read_at bytes p w) (let z : min o top ≡ o = grind arith in z)
read_far_case false bytes o w e h =
    sym (read_past bytes (min o top) w (let z : length bytes ≤ min o top = grind arith in z)) ∙ read_past bytes o w (let z : length bytes ≤ o = grind arith in z)

-- a read at a capped offset
pub read_far : (bytes : List ℕ) (o : ℕ) (w : Width) → length bytes ≤ top → read_at bytes (min o top) w ≡ read_at bytes o w
read_far bytes o w h = read_far_case (nat_le o top) bytes o w refl h

-- an element that the place as the code has it shows
pub item_read : (o : Option Slot) (s : r.Slot) (i : ℕ) (bytes : List ℕ) → Some (slot_of s) ≡ option_map capped o → i < s.count → length bytes ≤ top → read_at bytes (item_start s i) s.width ≡ read_item o i bytes
item_read None s i bytes e h b = cc
item_read (Some x) s i bytes e h b =
    let width : s.width ≡ x.width = ap (λ o. (unwrap_or o x).width) e in
    let offset : s.offset ≡ min x.offset top = ap (λ o. (unwrap_or o x).offset) e in
    let count : s.count ≡ x.count = ap (λ o. (unwrap_or o x).count) e in
    let within : nat_lt i x.count ≡ true = grind arith in
    let capped_twice : min (min x.offset top + min (i * width_bytes x.width) top) top ≡ min (x.offset + i * width_bytes x.width) top = omega arith in
    let at : item_start s i ≡ min (item_at x i) top =
    ap (λ w. min (s.offset + min (i * width_bytes w) top) top) width ∙ ap (λ p. min (p + min (i * width_bytes x.width) top) top) offset ∙ capped_twice in
    ap (λ p. read_at bytes p s.width) at ∙ read_far bytes (item_at x i) s.width b ∙ ap (read_at bytes (item_at x i)) width
    ∙ sym (if_so (nat_lt i x.count) (read_at bytes (item_at x i) x.width) 0 within)
