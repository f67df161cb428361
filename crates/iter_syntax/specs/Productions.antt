-- The productions of the language, each with the tree that it gives.
-- A number after a production's name bounds how deep expressions or blocks stand in one another.
-- `framed` gives a form sets for its parser (`Steps/Sets.antt`), and leaves its grammar.
use Rattle.std.specs.Prelude.{ℕ, zero, suc, Bool, true, false, nat_eq, List, [], ◌∷◌, Option, Some, None}
use Rattle.iter_syntax.specs.Names.{Place, Word, BinaryOp, FieldUse, Expr, Block, Stmt, Width, FieldDecl, RecordDecl, Arg, Iter, Program, Token, TokenKind, Keyword, Symbol}
use Rattle.iter_syntax.specs.declared.tree.BinaryOp.TheVariants as B
use Rattle.iter_syntax.specs.declared.tree.Expr.TheVariants as E
use Rattle.iter_syntax.specs.declared.tree.Stmt.TheVariants as T
use Rattle.iter_syntax.specs.declared.tree.Width.TheVariants as D
use Rattle.iter_syntax.specs.declared.token.TokenKind.TheVariants as K
use Rattle.iter_syntax.specs.declared.token.Keyword.TheVariants as W
use Rattle.iter_syntax.specs.declared.token.Symbol.TheVariants as S
use Rattle.iter_syntax.specs.Kinds.{is_keyword, is_symbol, is_name, is_next, is_number, is_operator, kind_operator}
use Rattle.iter_syntax.specs.Steps.Sets.{begins_expr, goes_on, follows_expr, begins_stmt, no_kind, begins_decl}
use Rattle.iter_syntax.specs.Form.{Form, one, both, gives, any, maybe, or, framed, none}

-- ---- one token and what it gives

abbrev pub place_of : Token → Place
place_of t = t.place

abbrev pub symbol : Symbol → Form Place
symbol s = gives place_of (one (is_symbol s))

abbrev pub keyword : Keyword → Form Place
keyword k = gives place_of (one (is_keyword k))

abbrev pub next_word : Form Place
next_word = gives place_of (one is_next)

abbrev pub kind_word : Place → TokenKind → Word
kind_word p (K.Name w) = record { place = p; text = w }
kind_word p _ = record { place = p; text = record { items = [] } }

abbrev pub to_word : Token → Word
to_word t = kind_word t.place t.kind

abbrev pub word : Form Word
word = gives to_word (one is_name)

abbrev pub kind_number : TokenKind → ℕ
kind_number (K.Number n) = n
kind_number _ = 0

abbrev pub to_number : Token → Place × ℕ
to_number t = (t.place, kind_number t.kind)

-- a number with its place
abbrev pub number : Form (Place × ℕ)
number = gives to_number (one is_number)

abbrev pub found_operator : Option BinaryOp → BinaryOp
found_operator (Some op) = op
found_operator None = B.Or

abbrev pub to_operator : Token → Place × BinaryOp
to_operator t = (t.place, found_operator (kind_operator t.kind))

-- a binary operator of a level, with its place
abbrev pub operator : ℕ → Form (Place × BinaryOp)
operator level = gives to_operator (one (is_operator level))

-- ---- expressions

-- operands from the left, each with the operator before it
abbrev pub to_left : Expr → List ((Place × BinaryOp) × Expr) → Expr
to_left left [] = left
to_left left (x ∷ xs) = to_left (E.Binary x.0.0 x.0.1 left x.1) xs

abbrev pub grouped : Expr × List ((Place × BinaryOp) × Expr) → Expr
grouped x = to_left x.0 x.1

abbrev pub listed : {A : Type 0} → Option A → List A
listed None = []
listed (Some x) = x ∷ []

abbrev pub compared : Expr × Option ((Place × BinaryOp) × Expr) → Expr
compared x = to_left x.0 (listed x.1)

-- operands and operators of a level; of comparisons, level 5, one may stand
abbrev pub chain : ℕ → Form Expr → Form Expr
chain level operand =
    gives grouped (both operand (any (both (operator level) operand)))

abbrev pub comparison : Form Expr → Form Expr
comparison operand = gives compared (both operand (maybe (both (operator 5) operand)))

abbrev pub row_of : Bool → ℕ → Form Expr → Form Expr
row_of true level operand = comparison operand
row_of false level operand = chain level operand

-- an expression of a level over unary ones
abbrev pub level : ℕ → Form Expr → Form Expr
level zero unary = unary
level (suc n) unary = row_of (nat_eq n 4) (suc n) (level n unary)

abbrev pub to_use : Word × Option Expr → FieldUse
to_use x = record { name = x.0; index = x.1 }

abbrev pub inner : {A : Type 0} → Place × (A × Place) → A
inner x = x.1.0

abbrev pub brackets : {A : Type 0} → Symbol → Form A → Symbol → Form A
brackets open_symbol a close_symbol = gives inner (both (symbol open_symbol) (both a (symbol close_symbol)))

-- the use of a field, with an index or without
abbrev pub use_over : Form Expr → Form FieldUse
use_over e = gives to_use (both word (maybe (brackets S.OpenSquare e S.CloseSquare)))

abbrev pub to_num : Place × ℕ → Expr
to_num x = E.Num x.0 x.1

abbrev pub cur_or_field : Place → Option (Place × FieldUse) → Expr
cur_or_field p None = E.Cur p
cur_or_field p (Some x) = E.CurField p x.1

abbrev pub to_cur : Place × Option (Place × FieldUse) → Expr
to_cur x = cur_or_field x.0 x.1

abbrev pub to_pad : Place × (Place × FieldUse) → Expr
to_pad x = E.PadField x.0 x.1.1

abbrev pub to_at : Place × (Place × (Expr × (Place × (Expr × Place)))) → Expr
to_at x = E.At x.0 x.1.1.0 x.1.1.1.1.0

abbrev pub cur_over : Form Expr → Form Expr
cur_over e = gives to_cur (both (keyword W.Cur) (maybe (both (symbol S.Dot) (use_over e))))

abbrev pub pad_over : Form Expr → Form Expr
pad_over e = gives to_pad (both (keyword W.Pad) (both (symbol S.Dot) (use_over e)))

abbrev pub at_over : Form Expr → Form Expr
at_over e = gives to_at (both (keyword W.At) (both (symbol S.OpenRound) (both e (both (symbol S.Comma) (both e (symbol S.CloseRound))))))

abbrev pub atom_over : Form Expr → Form Expr
atom_over e =
    or (gives to_num number)
    (or (gives E.Null (keyword W.Null))
    (or (gives E.Name word)
    (or (cur_over e)
    (or (pad_over e)
    (or (at_over e)
    (brackets S.OpenRound e S.CloseRound))))))

abbrev pub to_not : Place × Expr → Expr
to_not x = E.Not x.0 x.1

abbrev pub to_flip : Place × Expr → Expr
to_flip x = E.Flip x.0 x.1

abbrev pub expr_over : Form Expr → Form Expr
expr_over u = framed begins_expr follows_expr (level 7 u)

abbrev pub unary_over : Form Expr → Form Expr
unary_over u =
    or (gives to_not (both (symbol S.Bang) u))
    (or (gives to_flip (both (symbol S.Tilde) u))
    (atom_over (expr_over u)))

abbrev pub nested_unary : ℕ → Form Expr
nested_unary zero = none begins_expr goes_on
nested_unary (suc n) = unary_over (framed begins_expr goes_on (nested_unary n))

abbrev pub unary : ℕ → Form Expr
unary n = framed begins_expr goes_on (nested_unary n)

abbrev pub expr : ℕ → Form Expr
expr n = expr_over (unary n)

abbrev pub field_use : ℕ → Form FieldUse
field_use n = use_over (expr n)

-- ---- statements and blocks

abbrev pub to_let : Place × (Word × (Place × (Expr × Place))) → Stmt
to_let x = T.Let x.0 x.1.0 x.1.1.1.0

abbrev pub let_over : Form Expr → Form Stmt
let_over e = gives to_let (both (keyword W.Let) (both word (both (symbol S.Assign) (both e (symbol S.Semicolon)))))

abbrev pub to_set : Word × (Place × (Expr × Place)) → Stmt
to_set x = T.Set x.0.place x.0 x.1.1.0

abbrev pub set_over : Form Expr → Form Stmt
set_over e = gives to_set (both word (both (symbol S.Assign) (both e (symbol S.Semicolon))))

abbrev pub to_target : Place × (Place × (FieldUse × (Place × (Expr × Place)))) → Place × FieldUse × Expr
to_target x = (x.0, x.1.1.0, x.1.1.1.1.0)

-- `cur` or `pad`, and a value for a field of it
abbrev pub target_over : Keyword → Form Expr → Form (Place × FieldUse × Expr)
target_over k e =
    gives to_target (both (keyword k) (both (symbol S.Dot) (both (use_over e) (both (symbol S.Assign) (both e (symbol S.Semicolon))))))

abbrev pub to_set_pad : Place × FieldUse × Expr → Stmt
to_set_pad x = T.SetPad x.0 x.1 x.2

abbrev pub set_pad_over : Form Expr → Form Stmt
set_pad_over e = gives to_set_pad (target_over W.Pad e)

abbrev pub to_set_cur : Place × FieldUse × Expr → Stmt
to_set_cur x = T.SetCur x.0 x.1 x.2

abbrev pub set_cur_over : Form Expr → Form Stmt
set_cur_over e = gives to_set_cur (target_over W.Cur e)

abbrev pub second : {A B : Type 0} → A × B → B
second x = x.1

abbrev pub to_if : Place × (Expr × (Block × Option Block)) → Stmt
to_if x = T.If x.0 x.1.0 x.1.1.0 x.1.1.1

abbrev pub else_over : Form Block → Form (Option Block)
else_over b = maybe (gives second (both (keyword W.Else) b))

abbrev pub if_over : Form Expr → Form Block → Form Stmt
if_over e b = gives to_if (both (keyword W.If) (both e (both b (else_over b))))

abbrev pub to_for : Place × (Word × (Place × ((Place × ℕ) × (Place × ((Place × ℕ) × Block))))) → Stmt
to_for x = T.For x.0 x.1.0 x.1.1.1.0.1 x.1.1.1.1.1.0.1 x.1.1.1.1.1.1

abbrev pub for_over : Form Block → Form Stmt
for_over b = gives to_for (both (keyword W.For) (both word (both (keyword W.In) (both number (both (symbol S.Range) (both number b))))))

abbrev pub to_done : Place × Place → Stmt
to_done x = T.Done x.0

abbrev pub done_stmt : Form Stmt
done_stmt = gives to_done (both (keyword W.Done) (symbol S.Semicolon))

abbrev pub to_go : Place × (Expr × Place) → Stmt
to_go x = T.Go x.0 x.1.0

abbrev pub go_over : Form Expr → Form Stmt
go_over e = gives to_go (both (keyword W.Go) (both e (symbol S.Semicolon)))

abbrev pub stmt_over : Form Expr → Form Block → Form Stmt
stmt_over e b =
    framed begins_stmt (is_keyword W.Else)
    (or (let_over e)
    (or (set_over e)
    (or (set_pad_over e)
    (or (set_cur_over e)
    (or (if_over e b)
    (or (for_over b)
    (or done_stmt
    (go_over e))))))))

abbrev pub to_block : Place × (List Stmt × Place) → Block
to_block x = record { place = x.0; stmts = x.1.0; close = x.1.1 }

abbrev pub block_over : Form Expr → Form Block → Form Block
block_over e b = gives to_block (both (symbol S.OpenBrace) (both (any (stmt_over e b)) (symbol S.CloseBrace)))

abbrev pub nested_block : ℕ → Form Block
nested_block zero = none (is_symbol S.OpenBrace) no_kind
nested_block (suc n) = block_over (expr n) (framed (is_symbol S.OpenBrace) no_kind (nested_block n))

abbrev pub block : ℕ → Form Block
block n = framed (is_symbol S.OpenBrace) no_kind (nested_block n)

abbrev pub stmt : ℕ → Form Stmt
stmt n = stmt_over (expr n) (block n)

-- ---- records, iterators and programs

abbrev pub a_width : Width → Place → Width
a_width w p = w

abbrev pub width : Form Width
width =
    or (gives (a_width D.U8) (keyword W.U8))
    (or (gives (a_width D.U16) (keyword W.U16))
    (or (gives (a_width D.U32) (keyword W.U32))
    (or (gives (a_width D.U64) (keyword W.U64))
    (gives (a_width D.Ptr) (keyword W.Ptr)))))

abbrev pub to_array : Place × (Width × (Place × ((Place × ℕ) × Place))) → Width × Option ℕ
to_array x = (x.1.0, Some x.1.1.1.0.1)

abbrev pub to_plain : Width → Width × Option ℕ
to_plain w = (w, None)

-- the width of a field, and its length where it is an array
abbrev pub field_type : Form (Width × Option ℕ)
field_type =
    or (gives to_array (both (symbol S.OpenSquare) (both width (both (symbol S.Semicolon) (both number (symbol S.CloseSquare))))))
    (gives to_plain width)

abbrev pub to_field : Word × (Place × ((Width × Option ℕ) × Place)) → FieldDecl
to_field x = record { name = x.0; width = x.1.1.0.0; len = x.1.1.0.1 }

abbrev pub field : Form FieldDecl
field = gives to_field (both word (both (symbol S.Colon) (both field_type (symbol S.Semicolon))))

abbrev pub fields : Form (List FieldDecl)
fields = brackets S.OpenBrace (any field) S.CloseBrace

abbrev pub to_record : Place × (Word × List FieldDecl) → RecordDecl
to_record x = record { place = x.0; name = x.1.0; fields = x.1.1 }

abbrev pub record_decl : Form RecordDecl
record_decl = gives to_record (both (keyword W.Record) (both word fields))

abbrev pub an_int : Place → Bool
an_int p = false

abbrev pub a_pointer : Place → Bool
a_pointer p = true

abbrev pub arg_kind : Form Bool
arg_kind = or (gives an_int (keyword W.Int)) (gives a_pointer (keyword W.Ptr))

abbrev pub to_arg : Word × (Place × Bool) → Arg
to_arg x = record { name = x.0; pointer = x.1.1 }

abbrev pub arg : Form Arg
arg = gives to_arg (both word (both (symbol S.Colon) arg_kind))

abbrev pub all_args : Option (Arg × List Arg) → List Arg
all_args None = []
all_args (Some x) = x.0 ∷ x.1

abbrev pub more_arg : Form Arg
more_arg = gives second (both (symbol S.Comma) arg)

-- arguments with commas between them, or none
abbrev pub row_of_args : Form (List Arg)
row_of_args = gives all_args (maybe (both arg (any more_arg)))

abbrev pub args : Form (List Arg)
args = brackets S.OpenRound row_of_args S.CloseRound

abbrev pub Parts : Type 0
Parts = Place × (Word × (Place × (Word × (Place × (Place × (List FieldDecl × (Place × (List Arg × (Block × (Place × (Block × (Place × (Block × Place)))))))))))))

abbrev pub to_iter : Parts → Iter
to_iter x = record {
  place = x.0;
  name = x.1.0;
  on = x.1.1.1.0;
  pad = x.1.1.1.1.1.1.0;
  args = x.1.1.1.1.1.1.1.1.0;
  init_part = x.1.1.1.1.1.1.1.1.1.0;
  end_part = x.1.1.1.1.1.1.1.1.1.1.1.0;
  next_part = x.1.1.1.1.1.1.1.1.1.1.1.1.1.0;
}

abbrev pub iter_over : Form Block → Form Iter
iter_over b =
    gives to_iter
    (both (keyword W.Iter) (both word (both (keyword W.On) (both word
    (both (symbol S.OpenBrace) (both (keyword W.Pad) (both fields
    (both (keyword W.Init) (both args (both b
    (both (keyword W.End) (both b
    (both next_word (both b
    (symbol S.CloseBrace)))))))))))))))

-- a record or an iterator
pub data Decl : Type 0 where
  a_record : RecordDecl → Decl
  an_iter : Iter → Decl

abbrev pub records_of : List Decl → List RecordDecl
records_of [] = []
records_of (a_record r ∷ ds) = r ∷ records_of ds
records_of (an_iter i ∷ ds) = records_of ds

abbrev pub iters_of : List Decl → List Iter
iters_of [] = []
iters_of (a_record r ∷ ds) = iters_of ds
iters_of (an_iter i ∷ ds) = i ∷ iters_of ds

abbrev pub to_program : List Decl → Program
to_program ds = record { records = records_of ds; iters = iters_of ds }

abbrev pub decl_over : Form Block → Form Decl
decl_over b = framed begins_decl no_kind (or (gives a_record record_decl) (gives an_iter (iter_over b)))

abbrev pub program : ℕ → Form Program
program n = gives to_program (any (decl_over (block n)))
