-- The place of a field of at most 256 bytes is in the code what it is in the text.
use Rattle.std.proofs.Common.{◌≡◌, ℕ, suc, Bool, true, false, nat_lt, if◌then◌else◌, mul-le-mul_right, ◌+◌, ◌-◌, ◌*◌, ◌^◌, ◌<◌, ◌≤◌, Option, Some, None, option_map, refl, sym, ap, subst, ◌∙◌, arith, List}
use Rattle.std.specs.Prelude.{min}
use Rattle.iter_syntax.specs.declared.tree.Word.{Word}
use Rattle.iter_syntax.specs.declared.tree.FieldDecl.{FieldDecl}
use Rattle.iter_check.specs.Layout as l
use Rattle.iter_check.specs.Layout.{text, width_bytes, size_of}
use Rattle.iter_check.specs.FieldValue.{item_at}
use Rattle.iter_check.specs.Scope.{declared_field}
use Rattle.iter_check.specs.declared.fields.Slot.{Slot}
use Rattle.iter_check.specs.Views.Slots.{slot_of, capped}
use Rattle.iter_unroll.specs.Uses.{element}
use Rattle.iter_unroll.proofs.accepted.Options.{never}
use Rattle.iter_unroll.proofs.accepted.Fields.{Placed, placed}

pub record Found (q : Option l.Slot) (s : Slot) : Type 0 where
  pub is : q ≡ Some (slot_of s)
  pub inside : s.offset + s.count * width_bytes s.width ≤ 256

some_is : {A : Type 0} {x y : A} → Some x ≡ Some y → x ≡ y
some_is e = cc

uncapped : (x : l.Slot) → x.offset ≤ 256 → capped x ≡ x
uncapped x h = ap (λ n. record x { offset = n }) small
  where
    small : min x.offset (2 ^ 64 - 1) ≡ x.offset
    small = omega (arith, h)

slot_case : (n : ℕ) (d : Option FieldDecl) (q : Option l.Slot) (s : Slot) → n ≤ 256 → Placed n d q → Some (slot_of s) ≡ option_map capped q → Found q s
slot_case n d None s le p e = cc
slot_case n None (Some x) s le p e = never p
slot_case n (Some d) (Some x) s le p e =
    let same : slot_of s ≡ x = some_is e ∙ uncapped x (omega (arith, le, p.1)) in
    record {
      is = ap Some (sym same);
      inside = inner (slot_of s) same;
    }
  where
    inner : (y : l.Slot) → y ≡ x → y.offset + y.count * width_bytes y.width ≤ 256
    inner y e =
        let all : x.offset + x.count * width_bytes x.width ≤ 256 = omega (arith, le, p.1) in
        subst (λ z. z.offset + z.count * width_bytes z.width ≤ 256) (sym e) all

pub slot_found : (fields : List FieldDecl) (w : Word) (s : Slot) → size_of fields ≤ 256 → Some (slot_of s) ≡ option_map capped (l.find_field fields (text w)) → Found (l.find_field fields (text w)) s
slot_found fields w s le e = slot_case (size_of fields) (declared_field fields w) (l.find_field fields (text w)) s le (placed w fields) e

-- an element of a field that is found
pub record ElementAt (fields : List FieldDecl) (w : Word) (k : ℕ) (s : Slot) (width : ℕ) : Type 0 where
  pub fits : s.offset + k * width ≤ 256
  pub small : k * width ≤ 256
  pub is : Some (s.offset + k * width, s.width) ≡ element (l.find_field fields (text w)) k

if_so : {A : Type 0} (b : Bool) (x y : A) → b ≡ true → (if b then x else y) ≡ x
if_so true x y e = refl
if_so false x y e = cc

pub element_at : (fields : List FieldDecl) (w : Word) (k : ℕ) (o : Option Slot) (s : Slot) (width : ℕ) → size_of fields ≤ 256 → option_map slot_of o ≡ option_map capped (l.find_field fields (text w)) → o ≡ Some s → k < s.count → width ≡ width_bytes s.width → ElementAt fields w k s width
element_at fields w k o s width le e q lt h =
    let f = slot_found fields w s le (ap (option_map slot_of) (sym q) ∙ e) in
    let m : suc k * width_bytes s.width ≤ s.count * width_bytes s.width = mul-le-mul_right (width_bytes s.width) lt in
    let all : s.offset + k * width_bytes s.width ≤ 256 = omega (arith, m, f.inside) in
    let same : k * width ≡ k * width_bytes s.width = ap (λ n. k * n) h in
    let less : nat_lt k s.count ≡ true = grind arith in
    record {
      fits = omega (arith, all, same);
      small = omega (arith, all, same);
      is = ap (λ n. Some (s.offset + n, s.width)) same ∙ sym (if_so (nat_lt k s.count) (Some (item_at (slot_of s) k, s.width)) None less) ∙ ap (λ p. element p k) (sym f.is);
    }
