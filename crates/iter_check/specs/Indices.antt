-- The faults of indices: what an index is worth in each turn of all loops around it, also where the code never runs.
use Rattle.std.specs.Prelude.{ℕ, zero, suc, ◌-◌, ◌^◌, nat_lt, Bool, false, not, ◌||◌, List, [], ◌∷◌, ◌++◌, Option, Some, None, bytes_eq, unwrap_or, if◌then◌else◌}
use Rattle.iter_syntax.specs.declared.tree.Word.{Word}
use Rattle.iter_syntax.specs.declared.tree.FieldDecl.{FieldDecl}
use Rattle.iter_syntax.specs.Tree.{Ex, Sts}
use Rattle.iter_syntax.specs.Tree as t
use Rattle.iter_check.specs.Layout.{text}
use Rattle.iter_check.specs.Value.{Value, word, apply}
use Rattle.iter_check.specs.declared.kind.CheckKind.TheVariants as k
use Rattle.iter_check.specs.declared.kind.Fault.{Fault}
use Rattle.iter_check.specs.declared.loops.Loop.{Loop}
use Rattle.iter_check.specs.Faults.{fault}
use Rattle.iter_check.specs.Scope.{Ground, declared_field}

-- the number of a loop variable in one turn, where the loops around and their numbers in it stand with the outermost first
abbrev pub number_in : List ℕ → List Loop → List ℕ → Option ℕ
number_in name [] turn = None
number_in name (l ∷ loops) [] = None
number_in name (l ∷ loops) (n ∷ turn) = if bytes_eq l.text name then Some n else number_in name loops turn

abbrev pub two_numbers : (ℕ → ℕ → Value) → Option ℕ → Option ℕ → Option ℕ
two_numbers f None y = None
two_numbers f (Some x) None = None
two_numbers f (Some x) (Some y) = word (f x y)

abbrev pub flipped : Option ℕ → Option ℕ
flipped None = None
flipped (Some x) = Some (2 ^ 64 - 1 - x)

-- what an index is worth in one turn; it is worth nothing where it divides by zero, or has a part that is neither a
-- number, a loop variable nor an operator on such
abbrev pub index_in : List Loop → List ℕ → Ex → Option ℕ
index_in loops turn (t.num p n) = Some n
index_in loops turn (t.name w) = number_in (text w) loops turn
index_in loops turn (t.flip p e) = flipped (index_in loops turn e)
index_in loops turn (t.bin p o a b) = two_numbers (apply o) (index_in loops turn a) (index_in loops turn b)
index_in loops turn e = None

abbrev pub is_below : Option ℕ → ℕ → Bool
is_below None len = false
is_below (Some i) len = nat_lt i len

-- the index is not worth a number below the length in one turn
abbrev pub out_of : List Loop → Ex → ℕ → List ℕ → Bool
out_of loops i len turn = not (is_below (index_in loops turn i) len)

-- something holds for one of so many numbers, from `first` on
abbrev pub for_some : ℕ → ℕ → (ℕ → Bool) → Bool
for_some first zero holds = false
for_some first (suc n) holds = holds first || for_some (suc first) n holds

-- something holds in some turn of some loops; `turn` has the numbers of the loops around these
abbrev pub in_some_turn : List Loop → List ℕ → (List ℕ → Bool) → Bool
in_some_turn [] turn holds = holds turn
in_some_turn (l ∷ loops) turn holds = for_some l.first (l.past - l.first) (λ i. in_some_turn loops (turn ++ i ∷ []) holds)

-- how many elements an array has; what is none has none
abbrev pub array_len : Option FieldDecl → ℕ
array_len None = 0
array_len (Some f) = unwrap_or f.len 0

-- an index is below its array's length in every turn of the loops around
abbrev pub index_fault : List FieldDecl → List Loop → Word → Ex → List Fault
index_fault fields loops w i = fault k.Index w.place (in_some_turn loops [] (out_of loops i (array_len (declared_field fields w))))

abbrev pub expr_indices : Ground → List Loop → Ex → List Fault
expr_indices g loops (t.cur_item p w i) = index_fault g.record_fields loops w i ++ expr_indices g loops i
expr_indices g loops (t.pad_item p w i) = index_fault g.pad_fields loops w i ++ expr_indices g loops i
expr_indices g loops (t.not p e) = expr_indices g loops e
expr_indices g loops (t.flip p e) = expr_indices g loops e
expr_indices g loops (t.bin p o a b) = expr_indices g loops a ++ expr_indices g loops b
expr_indices g loops (t.at p a b) = expr_indices g loops a ++ expr_indices g loops b
expr_indices g loops e = []

abbrev pub loop_of : Word → ℕ → ℕ → Loop
loop_of w first past = record { text = text w; first = first; past = past }

abbrev pub indices : Ground → List Loop → Sts → List Fault
indices g loops t.end = []
indices g loops (t.bind p w e rest) = expr_indices g loops e ++ indices g loops rest
indices g loops (t.set p w e rest) = expr_indices g loops e ++ indices g loops rest
indices g loops (t.set_pad p w e rest) = expr_indices g loops e ++ indices g loops rest
indices g loops (t.set_pad_item p w i e rest) = expr_indices g loops (t.pad_item p w i) ++ expr_indices g loops e ++ indices g loops rest
indices g loops (t.set_cur p w e rest) = expr_indices g loops e ++ indices g loops rest
indices g loops (t.set_cur_item p w i e rest) = expr_indices g loops (t.cur_item p w i) ++ expr_indices g loops e ++ indices g loops rest
indices g loops (t.when p c first rest) = expr_indices g loops c ++ indices g loops first ++ indices g loops rest
indices g loops (t.choose p c first other rest) =
    expr_indices g loops c ++ indices g loops first ++ indices g loops other ++ indices g loops rest
indices g loops (t.loop p w first past body rest) = indices g (loops ++ loop_of w first past ∷ []) body ++ indices g loops rest
indices g loops (t.done p rest) = indices g loops rest
indices g loops (t.go p e rest) = expr_indices g loops e ++ indices g loops rest
