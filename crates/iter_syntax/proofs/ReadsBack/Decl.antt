-- The printed tokens of records and iterators are these again, places aside, where those of blocks are.
use Rattle.std.proofs.Common.{◌≡◌, ℕ, Bool, true, false, if◌then◌else◌, List, [], ◌∷◌, ◌++◌, Option, Some, None, map, flat_map, refl, ap, append_assoc}
use Rattle.iter_syntax.specs.Names.{Width, FieldDecl, RecordDecl, Arg, Block, Iter}
use Rattle.iter_syntax.specs.declared.tree.Width.TheVariants as D
use Rattle.iter_syntax.specs.declared.token.Keyword.TheVariants as W
use Rattle.iter_syntax.specs.declared.token.Symbol.TheVariants as S
use Rattle.iter_syntax.specs.Tree.{block}
use Rattle.iter_syntax.specs.Grammar.{many}
use Rattle.iter_syntax.specs.Form.{Form}
use Rattle.iter_syntax.specs.Productions as P
use Rattle.iter_syntax.specs.Printed as R
use Rattle.iter_syntax.specs.Printed.{Kinds, key, between, block_kinds, width_key, type_kinds, field_kinds, fields_kinds, record_kinds, arg_kinds, args_kinds, next_word, iter_kinds}
use Rattle.iter_syntax.specs.Bare.{bare_field, bare_record, bare_arg, bare_iter}
use Rattle.iter_syntax.proofs.ReadsBack.Forms.{Back, pair_back, value_back, either_left, either_right, none_back, some_back, nil_back, cons_back, symbol_back, keyword_back, next_back, word_back, number_back, brackets_back, same_kinds}
use Rattle.iter_syntax.proofs.ReadsBack.Stmt.{IsBlock}

-- ---- fields and records

width_back : (w : Width) → Back P.width.grammar (key (width_key w) ∷ []) (λ y. y ≡ w)
width_back D.U8 = either_left (value_back (P.a_width D.U8) (λ x q. refl) (keyword_back W.U8))
width_back D.U16 = either_right (either_left (value_back (P.a_width D.U16) (λ x q. refl) (keyword_back W.U16)))
width_back D.U32 = either_right (either_right (either_left (value_back (P.a_width D.U32) (λ x q. refl) (keyword_back W.U32))))
width_back D.U64 = either_right (either_right (either_right (either_left (value_back (P.a_width D.U64) (λ x q. refl) (keyword_back W.U64)))))
width_back D.Ptr = either_right (either_right (either_right (either_right (value_back (P.a_width D.Ptr) (λ x q. refl) (keyword_back W.Ptr)))))

abbrev IsType : Width → Option ℕ → Width × Option ℕ → Type 0
IsType w o y = (y.0 ≡ w) × (y.1 ≡ o)

type_back : (w : Width) (o : Option ℕ) → Back P.field_type.grammar (type_kinds w o) (IsType w o)
type_back w None = either_right (value_back P.to_plain (λ x q. (q, refl)) (width_back w))
type_back w (Some n) =
    either_left (value_back P.to_array (λ x q. (q.1.0, ap Some q.1.1.1.0))
    (pair_back (symbol_back S.OpenSquare) (pair_back (width_back w) (pair_back (symbol_back S.Semicolon) (pair_back (number_back n) (symbol_back S.CloseSquare))))))

field_back : (f : FieldDecl) → Back P.field.grammar (field_kinds f) (λ y. bare_field y ≡ bare_field f)
field_back f =
    value_back P.to_field (λ x q. cc)
    (pair_back (word_back f.name) (pair_back (symbol_back S.Colon) (pair_back (type_back f.width f.len) (symbol_back S.Semicolon))))

fields_row : (fs : List FieldDecl) → Back (many P.field.grammar) (flat_map field_kinds fs) (λ ys. map bare_field ys ≡ map bare_field fs)
fields_row [] = nil_back refl
fields_row (f ∷ fs) = cons_back (λ x xs q r. cc) (field_back f) (fields_row fs)

fields_back : (fs : List FieldDecl) → Back P.fields.grammar (fields_kinds fs) (λ ys. map bare_field ys ≡ map bare_field fs)
fields_back fs = brackets_back S.OpenBrace S.CloseBrace (fields_row fs)

pub record_back : (r : RecordDecl) → Back P.record_decl.grammar (record_kinds r) (λ y. bare_record y ≡ bare_record r)
record_back r =
    value_back P.to_record (λ x q. cc)
    (pair_back (keyword_back W.Record) (pair_back (word_back r.name) (fields_back r.fields)))

-- ---- arguments

arg_kind_back : (b : Bool) → Back P.arg_kind.grammar (key (if b then W.Ptr else W.Int) ∷ []) (λ y. y ≡ b)
arg_kind_back false = either_left (value_back P.an_int (λ x q. refl) (keyword_back W.Int))
arg_kind_back true = either_right (value_back P.a_pointer (λ x q. refl) (keyword_back W.Ptr))

abbrev IsArg : Arg → Arg → Type 0
IsArg a y = bare_arg y ≡ bare_arg a

arg_back : (a : Arg) → Back P.arg.grammar (arg_kinds a) (IsArg a)
arg_back a =
    value_back P.to_arg (λ x q. cc)
    (pair_back (word_back a.name) (pair_back (symbol_back S.Colon) (arg_kind_back a.pointer)))

abbrev AreArgs : List Arg → List Arg → Type 0
AreArgs args ys = map bare_arg ys ≡ map bare_arg args

more_args : (others : List Arg) → Back (many P.more_arg.grammar) (flat_map (λ b. R.sym S.Comma ∷ arg_kinds b) others) (AreArgs others)
more_args [] = nil_back refl
more_args (a ∷ others) =
    cons_back (λ x xs q r. cc)
    (value_back {R = IsArg a} P.second (λ x q. q.1) (pair_back (symbol_back S.Comma) (arg_back a))) (more_args others)

row_of_args : (args : List Arg) → Back P.row_of_args.grammar (args_kinds args) (AreArgs args)
row_of_args [] = value_back P.all_args (λ x q. q) (none_back _ (λ x. AreArgs [] (P.all_args x)) refl)
row_of_args (a ∷ others) =
    value_back P.all_args (λ x q. q)
    (some_back (λ x. AreArgs (a ∷ others) (P.all_args x)) (λ x q. cc) (pair_back (arg_back a) (more_args others)))

args_back : (args : List Arg) → Back P.args.grammar (between S.OpenRound (args_kinds args) S.CloseRound) (AreArgs args)
args_back args = brackets_back S.OpenRound S.CloseRound (row_of_args args)

-- ---- iterators

join : (a b c d e f : Kinds) → a ++ (b ++ (c ++ (d ++ (e ++ f)))) ≡ a ++ b ++ c ++ d ++ e ++ f
join a b c d e f = simp append_assoc

pub iter_back : (b : Form Block) (i : Iter) → Back b.grammar (block_kinds i.init_part) (IsBlock (block i.init_part)) → Back b.grammar (block_kinds i.end_part) (IsBlock (block i.end_part)) → Back b.grammar (block_kinds i.next_part) (IsBlock (block i.next_part)) → Back (P.iter_over b).grammar (iter_kinds i) (λ y. bare_iter y ≡ bare_iter i)
iter_back b i h g k =
    value_back P.to_iter (λ x q. cc)
    (same_kinds (ap (λ l. key W.Iter ∷ R.word i.name ∷ key W.On ∷ R.word i.on ∷ R.sym S.OpenBrace ∷ key W.Pad ∷ l) (join (fields_kinds i.pad) (key W.Init ∷ between S.OpenRound (args_kinds i.args) S.CloseRound) (block_kinds i.init_part) (key W.End ∷ block_kinds i.end_part) (next_word ∷ block_kinds i.next_part) (R.sym S.CloseBrace ∷ [])))
    (pair_back (keyword_back W.Iter) (pair_back (word_back i.name) (pair_back (keyword_back W.On) (pair_back (word_back i.on)
    (pair_back (symbol_back S.OpenBrace) (pair_back (keyword_back W.Pad) (pair_back (fields_back i.pad)
    (pair_back (keyword_back W.Init) (pair_back (args_back i.args) (pair_back h
    (pair_back (keyword_back W.End) (pair_back g
    (pair_back next_back (pair_back k
    (symbol_back S.CloseBrace))))))))))))))))
