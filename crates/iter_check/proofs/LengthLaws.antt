-- Statements keep how long the record and the pad are.
use Rattle.std.proofs.Common.{◌≡◌, ℕ, zero, suc, ◌+◌, ◌-◌, ◌/◌, ◌≤◌, Bool, true, false, List, [], ◌++◌, Option, Some, None, length, take, drop, nat_le, nat_lt, if◌then◌else◌, refl, ap, ◌∙◌, replicate, arith, length-append, length-take, length-drop}
use Rattle.std.proofs.lemmas.List.{length-replicate}
use Rattle.iter_syntax.specs.declared.tree.Word.{Word}
use Rattle.iter_syntax.specs.declared.tree.Iter.{Iter}
use Rattle.iter_syntax.specs.declared.tree.FieldDecl.{FieldDecl}
use Rattle.iter_syntax.specs.Tree.{Sts, block}
use Rattle.iter_syntax.specs.Tree as t
use Rattle.iter_syntax.specs.declared.tree.Width.{Width}
use Rattle.iter_check.specs.Layout.{Slot, width_bytes, size_of, find_field, text}
use Rattle.iter_check.specs.FieldValue.{bytes_of, item_at, write_at, write_item}
use Rattle.iter_check.specs.State.{Setting, State}
use Rattle.iter_check.specs.Value.{word, value_of}
use Rattle.iter_check.specs.Meaning.{Outcome, Falls, Done, Goes, Fault, declare, assign, store_pad, store_record, given, if_writable, then_do, within, pick, turns, meaning}
use Rattle.iter_check.specs.Laws.{Leaves, LeavesPad, PadLaw}
use Rattle.iter_check.specs.Iteration.{iterated, iteration, end_then_next, begun, with_arguments}

pub length-bytes_of : (w v : ℕ) → length (bytes_of w v) ≡ w
length-bytes_of zero v = refl
length-bytes_of (suc w) v = ap suc (length-bytes_of w (v / 256))

write_case : (b : Bool) (bytes : List ℕ) (o w v : ℕ) → nat_le (o + w) (length bytes) ≡ b → length (if b then take o bytes ++ bytes_of w v ++ drop (o + w) bytes else bytes) ≡ length bytes
write_case true bytes o w v e =
    let fits : o + w ≤ length bytes = grind arith in
    omega (arith, length-append (take o bytes ++ bytes_of w v) (drop (o + w) bytes), length-append (take o bytes) (bytes_of w v), length-bytes_of w v, length-take o bytes, length-drop (o + w) bytes)
write_case false bytes o w v e = refl

pub length-write_at : (bytes : List ℕ) (o : ℕ) (w : Width) (v : ℕ) → length (write_at bytes o w v) ≡ length bytes
length-write_at bytes o w v = write_case (nat_le (o + width_bytes w) (length bytes)) bytes o (width_bytes w) v refl

item_case : (b : Bool) (bytes : List ℕ) (o : ℕ) (w : Width) (v : ℕ) → length (if b then write_at bytes o w v else bytes) ≡ length bytes
item_case true bytes o w v = length-write_at bytes o w v
item_case false bytes o w v = refl

pub length-write_item : (s : Option Slot) (i v : ℕ) (bytes : List ℕ) → length (write_item s i v bytes) ≡ length bytes
length-write_item None i v bytes = refl
length-write_item (Some s) i v bytes = item_case (nat_lt i s.count) bytes (item_at s i) s.width v

-- an outcome leaves a record of `n` bytes and a pad of `m`
abbrev pub Keeps : ℕ → ℕ → Outcome → Type 0
Keeps n m (Falls s) = (length s.record_bytes ≡ n) × (length s.pad ≡ m)
Keeps n m (Done s) = (length s.record_bytes ≡ n) × (length s.pad ≡ m)
Keeps n m (Goes p s) = (length s.record_bytes ≡ n) × (length s.pad ≡ m)
Keeps n m (Fault k) = Unit {0}

abbrev Into : ℕ → ℕ → (State → Outcome) → Type 0
Into n m f = (s : State) → length s.record_bytes ≡ n → length s.pad ≡ m → Keeps n m (f s)

given_keeps : (n m : ℕ) (o : Option ℕ) (f : ℕ → Outcome) → ((v : ℕ) → Keeps n m (f v)) → Keeps n m (given o f)
given_keeps n m None f h = tt
given_keeps n m (Some v) f h = h v

writable_keeps : (n m : ℕ) (b : Bool) (o : Outcome) → Keeps n m o → Keeps n m (if_writable b o)
writable_keeps n m true o h = h
writable_keeps n m false o h = tt

then_keeps : (n m : ℕ) (o : Outcome) (f : State → Outcome) → Keeps n m o → Into n m f → Keeps n m (then_do o f)
then_keeps n m (Falls s) f h g = g s h.0 h.1
then_keeps n m (Done s) f h g = h
then_keeps n m (Goes p s) f h g = h
then_keeps n m (Fault k) f h g = tt

within_keeps : (n m k : ℕ) (o : Outcome) → Keeps n m o → Keeps n m (within k o)
within_keeps n m k (Falls s) h = h
within_keeps n m k (Done s) h = h
within_keeps n m k (Goes p s) h = h
within_keeps n m k (Fault e) h = tt

pick_keeps : (n m v : ℕ) (first other : Outcome) → Keeps n m first → Keeps n m other → Keeps n m (pick v first other)
pick_keeps n m zero first other h g = g
pick_keeps n m (suc v) first other h g = h

turns_keeps : (n m : ℕ) (w : Word) (i k : ℕ) (f : State → Outcome) → Into n m f → Into n m (turns w i k f)
turns_keeps n m w i zero f h s a b = (a, b)
turns_keeps n m w i (suc k) f h s a b =
    then_keeps n m (within (length s.names) (f (declare w i s))) (turns w (i + 1) k f) (within_keeps n m (length s.names) (f (declare w i s)) (h (declare w i s) a b)) (turns_keeps n m w (i + 1) k f h)

pub meaning_keeps : (g : Setting) (ss : Sts) (n m : ℕ) → Into n m (meaning g ss)
meaning_keeps g t.end n m s a b = (a, b)
meaning_keeps g (t.bind p w e rest) n m s a b = given_keeps n m (word (value_of g s e)) _ (λ v. meaning_keeps g rest n m (declare w v s) a b)
meaning_keeps g (t.set p w e rest) n m s a b = given_keeps n m (word (value_of g s e)) _ (λ v. meaning_keeps g rest n m (assign w v s) a b)
meaning_keeps g (t.set_pad p w e rest) n m s a b =
    given_keeps n m (word (value_of g s e)) _ (λ v. meaning_keeps g rest n m (store_pad g w 0 v s) a (length-write_item (find_field g.pad_fields (text w)) 0 v s.pad ∙ b))
meaning_keeps g (t.set_pad_item p w i e rest) n m s a b =
    given_keeps n m (word (value_of g s i)) _ (λ k. given_keeps n m (word (value_of g s e)) _ (λ v. meaning_keeps g rest n m (store_pad g w k v s) a (length-write_item (find_field g.pad_fields (text w)) k v s.pad ∙ b)))
meaning_keeps g (t.set_cur p w e rest) n m s a b =
    given_keeps n m (word (value_of g s e)) _ (λ v. writable_keeps n m g.writable _ (meaning_keeps g rest n m (store_record g w 0 v s) (length-write_item (find_field g.record_fields (text w)) 0 v s.record_bytes ∙ a) b))
meaning_keeps g (t.set_cur_item p w i e rest) n m s a b =
    given_keeps n m (word (value_of g s i)) _ (λ k. given_keeps n m (word (value_of g s e)) _ (λ v. writable_keeps n m g.writable _ (meaning_keeps g rest n m (store_record g w k v s) (length-write_item (find_field g.record_fields (text w)) k v s.record_bytes ∙ a) b)))
meaning_keeps g (t.when p c first rest) n m s a b =
    given_keeps n m (word (value_of g s c)) _ (λ v. then_keeps n m _ (meaning g rest) (pick_keeps n m v _ _ (within_keeps n m (length s.names) (meaning g first s) (meaning_keeps g first n m s a b)) (a, b)) (meaning_keeps g rest n m))
meaning_keeps g (t.choose p c first other rest) n m s a b =
    given_keeps n m (word (value_of g s c)) _ (λ v. then_keeps n m _ (meaning g rest) (pick_keeps n m v _ _ (within_keeps n m (length s.names) (meaning g first s) (meaning_keeps g first n m s a b)) (within_keeps n m (length s.names) (meaning g other s) (meaning_keeps g other n m s a b))) (meaning_keeps g rest n m))
meaning_keeps g (t.loop p w first past body rest) n m s a b =
    then_keeps n m _ (meaning g rest) (turns_keeps n m w first (past - first) (meaning g body) (meaning_keeps g body n m) s a b) (meaning_keeps g rest n m)
meaning_keeps g (t.done p rest) n m s a b = (a, b)
meaning_keeps g (t.go p e rest) n m s a b = given_keeps n m (word (value_of g s e)) _ (λ v. (a, b))

iterated_leaves : (n m : ℕ) (o : Outcome) → Keeps n m o → Leaves n m (iterated o)
iterated_leaves n m (Falls s) h = h
iterated_leaves n m (Done s) h = h
iterated_leaves n m (Goes p s) h = h
iterated_leaves n m (Fault k) h = tt

pub iteration_leaves : (fields : List FieldDecl) (it : Iter) (bytes : List ℕ) (cur : ℕ) (pad : List ℕ) (writable : Bool) → Leaves (length bytes) (length pad) (iteration fields it bytes cur pad writable)
iteration_leaves fields it bytes cur pad writable =
    let g : Setting = record { record_fields = fields; pad_fields = it.pad; cur = cur; writable = writable } in
    let s : State = record { record_bytes = bytes; pad = pad; names = [] } in
    iterated_leaves (length bytes) (length pad) (end_then_next g it s)
    (then_keeps (length bytes) (length pad) (meaning g (block it.end_part) s) _ (meaning_keeps g (block it.end_part) (length bytes) (length pad) s refl refl)
    (λ after a b. meaning_keeps g (block it.next_part) (length bytes) (length pad) (record after { names = [] }) a b))

begun_leaves : (m : ℕ) (o : Outcome) → Keeps 0 m o → LeavesPad m (begun o)
begun_leaves m (Falls s) h = h.1
begun_leaves m (Done s) h = h.1
begun_leaves m (Goes p s) h = h.1
begun_leaves m (Fault k) h = tt

pub begin_leaves : PadLaw
begin_leaves it values =
    let g : Setting = record { record_fields = []; pad_fields = it.pad; cur = 0; writable = true } in
    let s : State = record { record_bytes = []; pad = replicate (size_of it.pad) 0; names = with_arguments it.args values [] } in
    begun_leaves (size_of it.pad) (meaning g (block it.init_part) s) (meaning_keeps g (block it.init_part) 0 (size_of it.pad) s refl (length-replicate (size_of it.pad) 0))
