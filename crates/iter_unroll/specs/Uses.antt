-- Which fields of the record are used, read or written, in a branch that is taken or not: each as its offset and width.
use Rattle.std.specs.Prelude.{ℕ, zero, suc, ◌+◌, ◌-◌, nat_lt, false, List, [], ◌∷◌, ◌++◌, if◌then◌else◌, Option, Some, None, option_and_then}
use Rattle.iter_syntax.specs.declared.tree.Word.{Word}
use Rattle.iter_syntax.specs.declared.tree.Width.{Width}
use Rattle.iter_syntax.specs.declared.tree.FieldDecl.{FieldDecl}
use Rattle.iter_syntax.specs.declared.tree.Iter.{Iter}
use Rattle.iter_syntax.specs.Tree.{Ex, Sts, block}
use Rattle.iter_syntax.specs.Tree as t
use Rattle.iter_check.specs.Layout.{Slot, text, find_field}
use Rattle.iter_check.specs.FieldValue.{item_at}
use Rattle.iter_check.specs.State.{Names}
use Rattle.iter_check.specs.Value.{Value, word, value_of}
use Rattle.iter_unroll.specs.declared.tree.Flat.{Flat}
use Rattle.iter_unroll.specs.Flat.{Fx, Fs}
use Rattle.iter_unroll.specs.Flat as f
use Rattle.iter_unroll.specs.Tree.{fsts}

abbrev pub Use : Type 0
Use = ℕ × Width

-- by straight code
abbrev pub fx_uses : Fx → List Use
fx_uses (f.cur_field o w) = (o, w) ∷ []
fx_uses (f.not e) = fx_uses e
fx_uses (f.flip e) = fx_uses e
fx_uses (f.bin o a b) = fx_uses a ++ fx_uses b
fx_uses (f.at a b) = fx_uses a ++ fx_uses b
fx_uses e = []

abbrev pub fs_uses : Fs → List Use
fs_uses f.end = []
fs_uses (f.put_slot k e rest) = fx_uses e ++ fs_uses rest
fs_uses (f.put_pad o w e rest) = fx_uses e ++ fs_uses rest
fs_uses (f.put_cur o w e rest) = (o, w) ∷ (fx_uses e ++ fs_uses rest)
fs_uses (f.choose e first other rest) = fx_uses e ++ (fs_uses first ++ (fs_uses other ++ fs_uses rest))
fs_uses (f.done rest) = fs_uses rest
fs_uses (f.go e rest) = fx_uses e ++ fs_uses rest

-- by end and next
abbrev pub flat_uses : Flat → List Use
flat_uses flat = fs_uses (fsts flat.end_part) ++ fs_uses (fsts flat.next_part)

-- an element of a field, if there is one
abbrev pub element : Option Slot → ℕ → Option Use
element None k = None
element (Some s) k = if nat_lt k s.count then Some (item_at s k, s.width) else None

abbrev pub element_of : List FieldDecl → Word → Option ℕ → Option Use
element_of fields w k = option_and_then (element (find_field fields (text w))) k

-- what an index is worth in a turn, which gives each loop variable its number
abbrev pub index_value : Names → Ex → Value
index_value turn i =
    value_of
    (record { record_fields = []; pad_fields = []; cur = 0; writable = false })
    (record { record_bytes = []; pad = []; names = turn })
    i

abbrev pub listed : Option Use → List Use
listed None = []
listed (Some u) = u ∷ []

-- by the text of an iterator, in one turn of the loops around
abbrev pub ex_uses : List FieldDecl → Names → Ex → List Use
ex_uses fields turn (t.cur_field p w) = listed (element_of fields w (Some 0))
ex_uses fields turn (t.cur_item p w i) = listed (element_of fields w (word (index_value turn i)))
ex_uses fields turn (t.not p e) = ex_uses fields turn e
ex_uses fields turn (t.flip p e) = ex_uses fields turn e
ex_uses fields turn (t.bin p o a b) = ex_uses fields turn a ++ ex_uses fields turn b
ex_uses fields turn (t.at p a b) = ex_uses fields turn a ++ ex_uses fields turn b
ex_uses fields turn e = []

-- once for each number, from `i` on in so many turns
abbrev pub each_turn : (ℕ → List Use) → ℕ → ℕ → List Use
each_turn uses i zero = []
each_turn uses i (suc n) = uses i ++ each_turn uses (i + 1) n

abbrev pub sts_uses : List FieldDecl → Names → Sts → List Use
sts_uses fields turn t.end = []
sts_uses fields turn (t.bind p w e rest) = ex_uses fields turn e ++ sts_uses fields turn rest
sts_uses fields turn (t.set p w e rest) = ex_uses fields turn e ++ sts_uses fields turn rest
sts_uses fields turn (t.set_pad p w e rest) = ex_uses fields turn e ++ sts_uses fields turn rest
sts_uses fields turn (t.set_pad_item p w i e rest) = ex_uses fields turn e ++ sts_uses fields turn rest
sts_uses fields turn (t.set_cur p w e rest) =
    listed (element_of fields w (Some 0)) ++ (ex_uses fields turn e ++ sts_uses fields turn rest)
sts_uses fields turn (t.set_cur_item p w i e rest) =
    listed (element_of fields w (word (index_value turn i))) ++ (ex_uses fields turn e ++ sts_uses fields turn rest)
sts_uses fields turn (t.when p c first rest) = ex_uses fields turn c ++ (sts_uses fields turn first ++ sts_uses fields turn rest)
sts_uses fields turn (t.choose p c first other rest) =
    ex_uses fields turn c ++ (sts_uses fields turn first ++ (sts_uses fields turn other ++ sts_uses fields turn rest))
sts_uses fields turn (t.loop p w first past body rest) =
    each_turn (λ i. sts_uses fields ((text w, i) ∷ turn) body) first (past - first) ++ sts_uses fields turn rest
sts_uses fields turn (t.done p rest) = sts_uses fields turn rest
sts_uses fields turn (t.go p e rest) = ex_uses fields turn e ++ sts_uses fields turn rest

-- by end and next of an iterator on a record of these fields
abbrev pub iter_uses : List FieldDecl → Iter → List Use
iter_uses fields it = sts_uses fields [] (block it.end_part) ++ sts_uses fields [] (block it.next_part)
