-- The printed form of a program: its tokens in order, with parentheses only where the grouping needs them,
-- each followed by a space, or by a line's end where it is `;`, `{` or `}`.
use Rattle.std.specs.Prelude.{ℕ, ◌-◌, nat_eq, nat_lt, cond, List, [], ◌∷◌, ◌++◌, Option, Some, None, flat_map, decimal, if◌then◌else◌}
use Rattle.iter_syntax.specs.Names.{Word, Width, FieldDecl, RecordDecl, Arg, Block, Iter, Program, TokenKind, Keyword, Symbol}
use Rattle.iter_syntax.specs.declared.tree.Width.TheVariants as D
use Rattle.iter_syntax.specs.declared.token.TokenKind.TheVariants as K
use Rattle.iter_syntax.specs.declared.token.Keyword.TheVariants as W
use Rattle.iter_syntax.specs.declared.token.Symbol.TheVariants as S
use Rattle.iter_syntax.specs.Tree.{Ex, num, null, name, cur, cur_field, cur_item, pad_field, pad_item, not, flip, bin, at, Sts, end, bind, set, set_pad, set_pad_item, set_cur, set_cur_item, when, choose, loop, done, go, block}
use Rattle.iter_syntax.specs.Productions.{Decl, a_record, an_iter}
use Rattle.iter_syntax.specs.Operators.{level_of_operator, symbol_of_operator}
use Rattle.iter_syntax.specs.Spelling.{keyword_text, symbol_text}
use Rattle.iter_syntax.specs.Deep.{ends_stretch}

abbrev pub Kinds : Type 0
Kinds = List TokenKind

abbrev pub key : Keyword → TokenKind
key k = K.Keyword k

abbrev pub sym : Symbol → TokenKind
sym s = K.Symbol s

abbrev pub word : Word → TokenKind
word w = K.Name w.text

abbrev pub between : Symbol → Kinds → Symbol → Kinds
between first inside last = sym first ∷ inside ++ sym last ∷ []

-- ---- expressions

-- the loosest level that may stand at the left of an operator of a level without parentheses: operators of one
-- level group to the left, but comparisons do not stand in a row
abbrev pub left_level : ℕ → ℕ
left_level level = cond (nat_eq level 5) 4 level

-- the same at its right
abbrev pub right_level : ℕ → ℕ
right_level level = level - 1

-- the level of an expression: unary expressions and atoms have 0
abbrev pub level_of : Ex → ℕ
level_of (bin p op a b) = level_of_operator op
level_of _ = 0

-- an expression of a level, in parentheses where it is looser than what may stand here
abbrev pub in_parentheses : ℕ → ℕ → Kinds → Kinds
in_parentheses loosest level inside = cond (nat_lt loosest level) (between S.OpenRound inside S.CloseRound) inside

abbrev pub expr_kinds : Ex → Kinds
expr_kinds (num p n) = K.Number n ∷ []
expr_kinds (null p) = key W.Null ∷ []
expr_kinds (name w) = word w ∷ []
expr_kinds (cur p) = key W.Cur ∷ []
expr_kinds (cur_field p w) = key W.Cur ∷ sym S.Dot ∷ word w ∷ []
expr_kinds (cur_item p w i) = key W.Cur ∷ sym S.Dot ∷ word w ∷ between S.OpenSquare (expr_kinds i) S.CloseSquare
expr_kinds (pad_field p w) = key W.Pad ∷ sym S.Dot ∷ word w ∷ []
expr_kinds (pad_item p w i) = key W.Pad ∷ sym S.Dot ∷ word w ∷ between S.OpenSquare (expr_kinds i) S.CloseSquare
expr_kinds (not p e) = sym S.Bang ∷ in_parentheses 0 (level_of e) (expr_kinds e)
expr_kinds (flip p e) = sym S.Tilde ∷ in_parentheses 0 (level_of e) (expr_kinds e)
expr_kinds (bin p op a b) =
    in_parentheses (left_level (level_of_operator op)) (level_of a) (expr_kinds a)
    ++ sym (symbol_of_operator op) ∷ in_parentheses (right_level (level_of_operator op)) (level_of b) (expr_kinds b)
expr_kinds (at p a b) = key W.At ∷ between S.OpenRound (expr_kinds a ++ sym S.Comma ∷ expr_kinds b) S.CloseRound

-- ---- statements and blocks

-- a value that is given to a target
abbrev pub gets : Kinds → Ex → Kinds
gets target e = target ++ sym S.Assign ∷ expr_kinds e ++ sym S.Semicolon ∷ []

abbrev pub item : Word → Ex → Kinds
item w i = word w ∷ between S.OpenSquare (expr_kinds i) S.CloseSquare

abbrev pub braces : Kinds → Kinds
braces inside = between S.OpenBrace inside S.CloseBrace

abbrev pub stmt_kinds : Sts → Kinds
stmt_kinds end = []
stmt_kinds (bind p w e rest) = gets (key W.Let ∷ word w ∷ []) e ++ stmt_kinds rest
stmt_kinds (set p w e rest) = gets (word w ∷ []) e ++ stmt_kinds rest
stmt_kinds (set_pad p w e rest) = gets (key W.Pad ∷ sym S.Dot ∷ word w ∷ []) e ++ stmt_kinds rest
stmt_kinds (set_pad_item p w i e rest) = gets (key W.Pad ∷ sym S.Dot ∷ item w i) e ++ stmt_kinds rest
stmt_kinds (set_cur p w e rest) = gets (key W.Cur ∷ sym S.Dot ∷ word w ∷ []) e ++ stmt_kinds rest
stmt_kinds (set_cur_item p w i e rest) = gets (key W.Cur ∷ sym S.Dot ∷ item w i) e ++ stmt_kinds rest
stmt_kinds (when p t first rest) = (key W.If ∷ expr_kinds t ++ braces (stmt_kinds first)) ++ stmt_kinds rest
stmt_kinds (choose p t first other rest) =
    (key W.If ∷ expr_kinds t ++ braces (stmt_kinds first) ++ key W.Else ∷ braces (stmt_kinds other)) ++ stmt_kinds rest
stmt_kinds (loop p w first past body rest) =
    (key W.For ∷ word w ∷ key W.In ∷ K.Number first ∷ sym S.Range ∷ K.Number past ∷ braces (stmt_kinds body)) ++ stmt_kinds rest
stmt_kinds (done p rest) = (key W.Done ∷ sym S.Semicolon ∷ []) ++ stmt_kinds rest
stmt_kinds (go p e rest) = (key W.Go ∷ expr_kinds e ++ sym S.Semicolon ∷ []) ++ stmt_kinds rest

abbrev pub block_kinds : Block → Kinds
block_kinds b = braces (stmt_kinds (block b))

-- ---- records and iterators

abbrev pub width_key : Width → Keyword
width_key D.U8 = W.U8
width_key D.U16 = W.U16
width_key D.U32 = W.U32
width_key D.U64 = W.U64
width_key D.Ptr = W.Ptr

abbrev pub type_kinds : Width → Option ℕ → Kinds
type_kinds w None = key (width_key w) ∷ []
type_kinds w (Some n) = sym S.OpenSquare ∷ key (width_key w) ∷ sym S.Semicolon ∷ K.Number n ∷ sym S.CloseSquare ∷ []

abbrev pub field_kinds : FieldDecl → Kinds
field_kinds f = word f.name ∷ sym S.Colon ∷ type_kinds f.width f.len ++ sym S.Semicolon ∷ []

abbrev pub fields_kinds : List FieldDecl → Kinds
fields_kinds fs = braces (flat_map field_kinds fs)

abbrev pub record_kinds : RecordDecl → Kinds
record_kinds r = key W.Record ∷ word r.name ∷ fields_kinds r.fields

abbrev pub arg_kinds : Arg → Kinds
arg_kinds a = word a.name ∷ sym S.Colon ∷ key (if a.pointer then W.Ptr else W.Int) ∷ []

-- arguments with commas between them
abbrev pub args_kinds : List Arg → Kinds
args_kinds [] = []
args_kinds (a ∷ others) = arg_kinds a ++ flat_map (λ b. sym S.Comma ∷ arg_kinds b) others

-- the letters of `next`, which is no reserved word
abbrev pub next_word : TokenKind
next_word = K.Name (record { items = 110 ∷ 101 ∷ 120 ∷ 116 ∷ [] })

abbrev pub iter_kinds : Iter → Kinds
iter_kinds i =
    key W.Iter ∷ word i.name ∷ key W.On ∷ word i.on ∷ braces
    (key W.Pad ∷ fields_kinds i.pad
    ++ key W.Init ∷ between S.OpenRound (args_kinds i.args) S.CloseRound ++ block_kinds i.init_part
    ++ key W.End ∷ block_kinds i.end_part
    ++ next_word ∷ block_kinds i.next_part)

abbrev pub decl_kinds : Decl → Kinds
decl_kinds (a_record r) = record_kinds r
decl_kinds (an_iter i) = iter_kinds i

-- ---- programs

-- a record before the other records and the iterators, behind the iterators that stand before it in the text
abbrev pub put_record : (List Iter → List Decl) → RecordDecl → List Iter → List Decl
put_record others r [] = a_record r ∷ others []
put_record others r (i ∷ is) = cond (nat_lt (i.place).0 (r.place).0) (an_iter i ∷ put_record others r is) (a_record r ∷ others (i ∷ is))

abbrev pub iters_alone : List Iter → List Decl
iters_alone [] = []
iters_alone (i ∷ is) = an_iter i ∷ iters_alone is

-- records and iterators in the order of their places
abbrev pub in_order : List RecordDecl → List Iter → List Decl
in_order [] is = iters_alone is
in_order (r ∷ rs) is = put_record (in_order rs) r is

abbrev pub program_kinds : Program → Kinds
program_kinds p = flat_map decl_kinds (in_order p.records p.iters)

-- ---- the text of tokens

abbrev pub spelling : TokenKind → List ℕ
spelling (K.Name w) = w.items
spelling (K.Keyword k) = keyword_text k
spelling (K.Number n) = decimal n
spelling (K.Symbol s) = symbol_text s

-- LF behind `;`, `{` and `}`, a space behind every other token
abbrev pub separator : TokenKind → ℕ
separator k = cond (ends_stretch k) 10 32

abbrev pub laid_out : Kinds → List ℕ
laid_out [] = []
laid_out (k ∷ ks) = spelling k ++ separator k ∷ laid_out ks

-- the printed form
abbrev pub printed : Program → List ℕ
printed p = laid_out (program_kinds p)
