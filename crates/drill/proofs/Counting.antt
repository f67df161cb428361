-- The numbers of answers, counted one after the other.
use Rattle.std.proofs.Common.{◌≡◌, ℕ, ◌+◌, ◌<◌, ◌^◌, Bool, List, cond, length, get_or, take, ap, sym, ◌∙◌, arith}
use Rattle.std.proofs.lemmas.List.{length-take}
use Rattle.std.proofs.lemmas.List.Filters.{length-filter_more}
use Rattle.std.proofs.lemmas.List.Sums.{length-filter, count_by-le-length}
use Rattle.pulse_base.specs.declared.answer.Answer.{Answer}
use Rattle.drill.specs.Summary.{is_done, is_fault, is_spent, is_silent, how_many}
use Rattle.drill.specs.inner.Tally.{counted, tally_of}

-- a count up to a place of a slice leaves room for one more
pub count_fits : (is : Answer → Bool) (answers : List Answer) (i n : ℕ) → length answers < 2 ^ 63 → n ≡ how_many is (take i answers) → n < 2 ^ 63
count_fits is answers i n short e =
    omega (arith, e, length-filter is (take i answers), count_by-le-length is (take i answers), length-take i answers)

pub how_many_more : (is : Answer → Bool) (answers : List Answer) (i : ℕ) (x : Answer) → i < length answers → x ≡ get_or answers i x → how_many is (take (i + 1) answers) ≡ how_many is (take i answers) + cond (is x) 1 0
how_many_more is answers i x h e =
    length-filter_more is answers i x h ∙ ap (λ y. how_many is (take i answers) + cond (is y) 1 0) (sym e)

pub tally_more : (answers : List Answer) (i : ℕ) (x : Answer) → i < length answers → x ≡ get_or answers i x → tally_of (take (i + 1) answers) ≡ counted (tally_of (take i answers)) x
tally_more answers i x h e =
    let done = how_many_more is_done answers i x h e in
    let faults = how_many_more is_fault answers i x h e in
    let spent = how_many_more is_spent answers i x h e in
    let silent = how_many_more is_silent answers i x h e in
    cc
