-- What the checker keeps of an expression is the first of its faults.
use Rattle.std.proofs.Common.{◌≡◌, ℕ, zero, suc, ◌+◌, max, ◌||◌, List, ◌++◌, Option, ap, ◌∙◌, refl, arith}
use Rattle.std.specs.Prelude.{nat_lt, is_none}
use Rattle.iter_syntax.specs.Tree.{Ex}
use Rattle.iter_syntax.specs.Tree as t
use Rattle.iter_check.specs.declared.kind.Fault.{Fault}
use Rattle.iter_check.specs.declared.kind.CheckKind.TheVariants as k
use Rattle.iter_check.specs.declared.sort.Sort.TheVariants as s
use Rattle.iter_check.specs.Faults.{fault}
use Rattle.iter_check.specs.Scope.{Scope, Ground, bound, declared_field}
use Rattle.iter_check.specs.Typing.{is_not, in_init, clash, no_address, sort_of}
use Rattle.iter_check.specs.Expressions.{depth, place_of, too_deep, plain_faults, item_faults, expr_faults}
use Rattle.iter_check.specs.First.Least.{note}
use Rattle.iter_check.specs.First.Expr.{deeper, note_deep, first_expr}
use Rattle.iter_check.proofs.First.Keeps.{Firsts, nothing, listed, next}

less_max : (n a b : ℕ) → (nat_lt n a || nat_lt n b) ≡ nat_lt n (max a b)
less_max n a b = grind arith

one_less : (n d : ℕ) → nat_lt n d ≡ nat_lt (suc n) (1 + d)
one_less n d = grind arith

pub deeper_is : (n : ℕ) (e : Ex) → deeper n e ≡ nat_lt n (depth e)
deeper_is zero (t.num p v) = refl
deeper_is zero (t.null p) = refl
deeper_is zero (t.name w) = refl
deeper_is zero (t.cur p) = refl
deeper_is zero (t.cur_field p w) = refl
deeper_is zero (t.cur_item p w i) = refl
deeper_is zero (t.pad_field p w) = refl
deeper_is zero (t.pad_item p w i) = refl
deeper_is zero (t.not p e) = grind arith
deeper_is zero (t.flip p e) = grind arith
deeper_is zero (t.bin p o a b) = grind arith
deeper_is zero (t.at p a b) = grind arith
deeper_is (suc n) (t.num p v) = grind arith
deeper_is (suc n) (t.null p) = grind arith
deeper_is (suc n) (t.name w) = grind arith
deeper_is (suc n) (t.cur p) = grind arith
deeper_is (suc n) (t.cur_field p w) = grind arith
deeper_is (suc n) (t.cur_item p w i) = grind arith
deeper_is (suc n) (t.pad_field p w) = grind arith
deeper_is (suc n) (t.pad_item p w i) = grind arith
deeper_is (suc n) (t.not p e) = deeper_is n e ∙ one_less n (depth e)
deeper_is (suc n) (t.flip p e) = deeper_is n e ∙ one_less n (depth e)
deeper_is (suc n) (t.bin p o a b) = ap (λ x. x || deeper n b) (deeper_is n a) ∙ ap (λ y. nat_lt n (depth a) || y) (deeper_is n b) ∙ less_max n (depth a) (depth b) ∙ one_less n (max (depth a) (depth b))
deeper_is (suc n) (t.at p a b) = ap (λ x. x || deeper n b) (deeper_is n a) ∙ ap (λ y. nat_lt n (depth a) || y) (deeper_is n b) ∙ less_max n (depth a) (depth b) ∙ one_less n (max (depth a) (depth b))

pub deep : (e : Ex) → Firsts (note_deep e) (too_deep e)
deep e = record { keeps = λ best. ap (λ b. note k.Depth (place_of e) b best) (deeper_is 7 e) }

-- an index after what goes before it
index : (g : Ground) (scope : Scope) (i : Ex) {f : Option Fault → Option Fault} {fs : List Fault} → Firsts (first_expr g scope i) (expr_faults g scope i) → Firsts f fs
    → Firsts (λ best. note k.Typing (place_of i) (is_not s.Int (sort_of g scope i)) (first_expr g scope i (note_deep i (f best)))) (fs ++ too_deep i ++ expr_faults g scope i ++ fault k.Typing (place_of i) (is_not s.Int (sort_of g scope i)))
index g scope i h a = next (next (next a (deep i)) h) (listed (fault k.Typing (place_of i) (is_not s.Int (sort_of g scope i))))

pub first_expr_is : (g : Ground) (scope : Scope) (e : Ex) → Firsts (first_expr g scope e) (expr_faults g scope e)
first_expr_is g scope (t.num p v) = nothing
first_expr_is g scope (t.null p) = nothing
first_expr_is g scope (t.name w) = listed (fault k.Name w.place (is_none (bound scope w)))
first_expr_is g scope (t.cur p) = listed (fault k.Name p (in_init g.part))
first_expr_is g scope (t.cur_field p w) = next (listed (fault k.Name p (in_init g.part))) (listed (plain_faults (declared_field g.record_fields w) w))
first_expr_is g scope (t.cur_item p w i) =
    index g scope i (first_expr_is g scope i) (next (listed (fault k.Name p (in_init g.part))) (listed (item_faults (declared_field g.record_fields w) w)))
first_expr_is g scope (t.pad_field p w) = listed (plain_faults (declared_field g.pad_fields w) w)
first_expr_is g scope (t.pad_item p w i) = index g scope i (first_expr_is g scope i) (listed (item_faults (declared_field g.pad_fields w) w))
first_expr_is g scope (t.not p e) = next (first_expr_is g scope e) (listed (fault k.Typing p (is_not s.Bool (sort_of g scope e))))
first_expr_is g scope (t.flip p e) = next (first_expr_is g scope e) (listed (fault k.Typing p (is_not s.Int (sort_of g scope e))))
first_expr_is g scope (t.bin p o a b) =
    next (next (first_expr_is g scope a) (first_expr_is g scope b)) (listed (fault k.Typing p (clash o (sort_of g scope a) (sort_of g scope b))))
first_expr_is g scope (t.at p a b) =
    next (next (first_expr_is g scope a) (first_expr_is g scope b)) (listed (fault k.Typing p (no_address (sort_of g scope a) (sort_of g scope b))))
