-- The printed tokens of what tokens are a whole record or iterator of are these tokens without some parentheses.
use Rattle.std.proofs.Common.{◌≡◌, ℕ, Bool, if◌then◌else◌, List, [], ◌∷◌, ◌++◌, Option, Some, None, flat_map, append_assoc, refl, sym, ap, ◌∙◌, subst, inl, inr}
use Rattle.iter_syntax.specs.Names.{Token, Width, Arg, Iter, Block}
use Rattle.iter_syntax.specs.declared.token.Keyword.TheVariants as W
use Rattle.iter_syntax.specs.declared.token.Symbol.TheVariants as S
use Rattle.iter_syntax.specs.declared.tree.Width.TheVariants as D
use Rattle.iter_syntax.specs.Grammar.{Grammar, pair, value, either}
use Rattle.iter_syntax.specs.Form.{Form}
use Rattle.iter_syntax.specs.Productions as P
use Rattle.iter_syntax.specs.Printed.{Kinds, key, sym as kind, word, width_key, type_kinds, field_kinds, fields_kinds, record_kinds, arg_kinds, args_kinds, between, braces, next_word, block_kinds, iter_kinds, decl_kinds}
use Rattle.iter_syntax.specs.Steps.Printing.{or_none}
use Rattle.iter_syntax.proofs.TokenKinds.{kinds}
use Rattle.iter_syntax.proofs.Trims.{Trims}
use Rattle.iter_syntax.proofs.Trims.Scan.{Closed, Ended, closed_round, closed_square, closed_brace, ended_brace}
use Rattle.iter_syntax.proofs.Trims.Pieces.{AllPrint, kinds_of, one_symbol, prints_pair, prints_value, prints_either, prints_optional, prints_many, prints_keyword, prints_symbol, prints_next, prints_word, prints_number, before_last, before_pair, prints_enclosed, prints_brackets}
use Rattle.iter_syntax.proofs.Trims.Stmt.{block_prints}

pub record TrimsDecl (ts : List Token) (x : P.Decl) : Type 0 where
  pub closed : Closed (kinds ts)
  pub ended : Ended (kinds ts)
  pub trims : Trims (decl_kinds x) (kinds ts)

-- ---- fields

a_width : (w : Width) → AllPrint (value (P.a_width w) (P.keyword (width_key w)).grammar) (λ v. key (width_key v) ∷ [])
a_width w = prints_value (P.a_width w) _ _ _ (λ p. refl) (prints_keyword (width_key w))

prints_width : AllPrint P.width.grammar (λ w. key (width_key w) ∷ [])
prints_width =
    prints_either _ _ _ (a_width D.U8) (prints_either _ _ _ (a_width D.U16) (prints_either _ _ _ (a_width D.U32) (prints_either _ _ _ (a_width D.U64) (a_width D.Ptr))))

prints_array : AllPrint (value P.to_array (pair (P.symbol S.OpenSquare).grammar (pair P.width.grammar (pair (P.symbol S.Semicolon).grammar (pair P.number.grammar (P.symbol S.CloseSquare).grammar))))) (λ x. type_kinds x.0 x.1)
prints_array =
    prints_value P.to_array _ _ _ (λ x. refl)
    (prints_enclosed S.OpenSquare S.CloseSquare _ _ closed_square (before_pair _ _ _ _ _ prints_width (before_pair _ _ _ _ _ (prints_symbol S.Semicolon (λ n. refl)) (before_last _ _ _ prints_number))))

prints_type : AllPrint P.field_type.grammar (λ x. type_kinds x.0 x.1)
prints_type = prints_either _ _ _ prints_array (prints_value P.to_plain _ _ _ (λ w. refl) prints_width)

prints_field : AllPrint P.field.grammar field_kinds
prints_field =
    prints_value P.to_field _ _ _ (λ x. refl)
    (prints_pair _ _ _ _ prints_word (prints_pair _ _ _ _ (prints_symbol S.Colon (λ n. refl))
    (prints_pair _ _ (λ y. type_kinds y.0 y.1) _ prints_type (prints_symbol S.Semicolon (λ n. refl)))))

prints_fields : AllPrint P.fields.grammar fields_kinds
prints_fields = prints_brackets S.OpenBrace S.CloseBrace _ _ closed_brace (prints_many _ _ prints_field)

prints_record : AllPrint P.record_decl.grammar record_kinds
prints_record =
    prints_value P.to_record _ _ _ (λ x. refl) (prints_pair _ _ _ _ (prints_keyword W.Record) (prints_pair _ _ _ _ prints_word prints_fields))

-- ---- arguments

abbrev sort_kinds : Bool → Kinds
sort_kinds b = key (if b then W.Ptr else W.Int) ∷ []

prints_sort : AllPrint P.arg_kind.grammar sort_kinds
prints_sort =
    prints_either _ _ _ (prints_value P.an_int _ _ sort_kinds (λ p. refl) (prints_keyword W.Int)) (prints_value P.a_pointer _ _ sort_kinds (λ p. refl) (prints_keyword W.Ptr))

prints_arg : AllPrint P.arg.grammar arg_kinds
prints_arg =
    prints_value P.to_arg _ _ _ (λ x. refl) (prints_pair _ _ _ _ prints_word (prints_pair _ _ _ _ (prints_symbol S.Colon (λ n. refl)) prints_sort))

abbrev more_kinds : Arg → Kinds
more_kinds a = kind S.Comma ∷ arg_kinds a

prints_more : AllPrint P.more_arg.grammar more_kinds
prints_more = prints_value P.second _ _ more_kinds (λ x. refl) (prints_pair _ _ _ _ (prints_symbol S.Comma (λ n. refl)) prints_arg)

abbrev first_kinds : Arg × List Arg → Kinds
first_kinds x = arg_kinds x.0 ++ flat_map more_kinds x.1

row_same : (o : Option (Arg × List Arg)) → args_kinds (P.all_args o) ≡ or_none first_kinds o
row_same None = refl
row_same (Some x) = refl

prints_args : AllPrint P.args.grammar (λ l. between S.OpenRound (args_kinds l) S.CloseRound)
prints_args =
    prints_brackets S.OpenRound S.CloseRound _ _ closed_round
    (prints_value P.all_args _ _ _ row_same (prints_optional _ _ (prints_pair _ _ _ _ prints_arg (prints_many _ _ prints_more))))

-- ---- iterators

five : (a b c d e : Kinds) → a ++ b ++ c ++ d ++ e ≡ a ++ (b ++ (c ++ (d ++ e)))
five a b c d e = simp append_assoc

-- the same with the parts of the braces joined from the right
abbrev inside_kinds : Iter → Kinds
inside_kinds i =
    key W.Pad ∷ (fields_kinds i.pad ++ key W.Init ∷ (between S.OpenRound (args_kinds i.args) S.CloseRound ++ (block_kinds i.init_part ++ key W.End ∷ (block_kinds i.end_part ++ next_word ∷ block_kinds i.next_part))))

iter_same : (i : Iter) → iter_kinds i ≡ key W.Iter ∷ word i.name ∷ key W.On ∷ word i.on ∷ braces (inside_kinds i)
iter_same i =
    ap (λ l. key W.Iter ∷ word i.name ∷ key W.On ∷ word i.on ∷ braces l)
    (five (key W.Pad ∷ fields_kinds i.pad) (key W.Init ∷ between S.OpenRound (args_kinds i.args) S.CloseRound) (block_kinds i.init_part) (key W.End ∷ block_kinds i.end_part) (next_word ∷ block_kinds i.next_part))

prints_iter : (b : Form Block) → AllPrint b.grammar block_kinds → AllPrint (P.iter_over b).grammar iter_kinds
prints_iter b h =
    prints_value P.to_iter _ _ _ (λ x. iter_same (P.to_iter x))
    (prints_pair _ _ _ _ (prints_keyword W.Iter) (prints_pair _ _ _ _ prints_word (prints_pair _ _ _ _ (prints_keyword W.On) (prints_pair _ _ _ _ prints_word
    (prints_enclosed S.OpenBrace S.CloseBrace _ _ closed_brace
    (before_pair _ _ _ _ _ (prints_keyword W.Pad) (before_pair _ _ _ _ _ prints_fields
    (before_pair _ _ _ _ _ (prints_keyword W.Init) (before_pair _ _ _ _ _ prints_args (before_pair _ _ _ _ _ h
    (before_pair _ _ _ _ _ (prints_keyword W.End) (before_pair _ _ _ _ _ h
    (before_pair _ _ _ _ _ prints_next (before_last _ _ _ h))))))))))))))

-- ---- the last token

record AllEnded {A : Type 0} (g : Grammar A) : Type 0 where
  all : (ts : List Token) (x : A) → g.whole ts x → (a : Kinds) × (kinds ts ≡ a ++ kind S.CloseBrace ∷ [])

ended_last : AllEnded (P.symbol S.CloseBrace).grammar
ended_last = record { all = λ ts x w. ([], one_symbol S.CloseBrace ts x w) }

ended_pair : {A B : Type 0} (a : Grammar A) (b : Grammar B) → AllEnded b → AllEnded (pair a b)
ended_pair a b h = record { all = all }
  where
    all : (ts : List Token) (x : _) → (pair a b).whole ts x → (c : Kinds) × (kinds ts ≡ c ++ kind S.CloseBrace ∷ [])
    all ts x (u, v, e, w, z) =
        let r = h.all v x.1 z in
        (kinds u ++ r.0, kinds_of ts u v e ∙ ap (λ l. kinds u ++ l) r.1 ∙ sym (append_assoc (kinds u) r.0 (kind S.CloseBrace ∷ [])))

ended_value : {A B : Type 0} (f : A → B) (a : Grammar A) → AllEnded a → AllEnded (value f a)
ended_value f a h = record { all = λ ts y w. h.all ts w.0 w.1 }

ended_either : {A : Type 0} (a b : Grammar A) → AllEnded a → AllEnded b → AllEnded (either a b)
ended_either a b h k = record { all = all }
  where
    all : (ts : List Token) (x : _) → (either a b).whole ts x → (c : Kinds) × (kinds ts ≡ c ++ kind S.CloseBrace ∷ [])
    all ts x (inl w) = h.all ts x w
    all ts x (inr w) = k.all ts x w

decl_ended : (b : Form Block) → AllEnded (P.decl_over b).grammar
decl_ended b =
    ended_either _ _
    (ended_value _ _ (ended_value _ _ (ended_pair _ _ (ended_pair _ _ (ended_value _ _ (ended_pair _ _ (ended_pair _ _ ended_last)))))))
    (ended_value _ _ (ended_value _ _
    (ended_pair _ _ (ended_pair _ _ (ended_pair _ _ (ended_pair _ _ (ended_pair _ _ (ended_pair _ _ (ended_pair _ _
    (ended_pair _ _ (ended_pair _ _ (ended_pair _ _ (ended_pair _ _ (ended_pair _ _ (ended_pair _ _ (ended_pair _ _ ended_last))))))))))))))))

-- ---- records and iterators

prints_decl : (b : Form Block) → AllPrint b.grammar block_kinds → AllPrint (P.decl_over b).grammar decl_kinds
prints_decl b h =
    prints_either _ _ _ (prints_value P.a_record _ _ decl_kinds (λ r. refl) prints_record) (prints_value P.an_iter _ _ decl_kinds (λ i. refl) (prints_iter b h))

pub decl_trims : (d : ℕ) (ts : List Token) (x : P.Decl) → (P.decl_over (P.block d)).grammar.whole ts x → TrimsDecl ts x
decl_trims d ts x w =
    let p = (prints_decl (P.block d) (block_prints d)).all ts x w in
    let e = (decl_ended (P.block d)).all ts x w in
    record { closed = p.closed; ended = subst Ended (sym e.1) (ended_brace e.0); trims = p.trims }
