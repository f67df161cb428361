-- What a reading function answers at a place of the tokens, by the parser of its form.
use Rattle.std.specs.Prelude.{slice_get, ◌≡◌, ◌≤◌, ℕ, Bool, List, ◌∷◌, ◌++◌, length, drop, Result, Ok, Err}
use Rattle.iter_syntax.specs.Names.{Token, SyntaxFault, Arg, RecordDecl, Iter, Program, Expr, Place}
use Rattle.iter_syntax.specs.declared.parser.reader.Refused.{Refused}
use Rattle.iter_syntax.specs.declared.parser.reader.Refused.TheVariants.{At, Memory}
use Rattle.iter_syntax.specs.declared.parser.reader.Class.{Class}
use Rattle.iter_syntax.specs.declared.parser.reader.Class.TheVariants as C
use Rattle.iter_syntax.specs.Kinds.{is_name, is_next, is_number, is_keyword, is_symbol}
use Rattle.iter_syntax.specs.Form.{Form, gives, one, both, any, maybe}
use Rattle.iter_syntax.specs.Steps.Parsers.{Parser, Reading, Read, Stuck, bind, read_value}
use Rattle.iter_syntax.specs.Productions.{place_of, operator, grouped, compared, more_arg, Decl, records_of, iters_of}
use Rattle.iter_syntax.specs.Program.{IsProgram, StopsAt}
use Rattle.iter_syntax.specs.Parsed.{offset_of}
use Rattle.iter_syntax.specs.declared.fault.SyntaxFault.TheVariants as F

abbrev pub in_class : Class → Token → Bool
in_class C.Name t = is_name t
in_class C.Next t = is_next t
in_class C.Number t = is_number t
in_class (C.Keyword k) t = is_keyword k t
in_class (C.Symbol s) t = is_symbol s t

-- a token of a class, of which the place counts
abbrev pub of_class : Class → Form Place
of_class c = gives place_of (one (in_class c))

-- from token `at` on: a form and where it ends, at `past` or behind it; or the token that does not fit
abbrev pub Reads : {A : Type 0} → Parser A → List Token → ℕ → ℕ → Result (A × ℕ) Refused → Type 0
Reads p ts at past (Ok x) = (past ≤ x.1) × (x.1 ≤ length ts) × (p (drop at ts) ≡ Read x.0 (drop x.1 ts))
Reads p ts at past (Err (At stop)) = (stop ≤ length ts) × (p (drop at ts) ≡ Stuck (drop stop ts))
Reads p ts at past (Err Memory) = Unit {0}

-- the same of a function that takes no memory: it never answers the want of it
abbrev pub Finds : {A : Type 0} → Parser A → List Token → ℕ → ℕ → Result (A × ℕ) Refused → Type 0
Finds p ts at past (Ok x) = (past ≤ x.1) × (x.1 ≤ length ts) × (p (drop at ts) ≡ Read x.0 (drop x.1 ts))
Finds p ts at past (Err (At stop)) = (stop ≤ length ts) × (p (drop at ts) ≡ Stuck (drop stop ts))
Finds p ts at past (Err Memory) = ⊥

-- a row that goes on after the items found so far
abbrev pub after : {A : Type 0} → List A → Reading (List A) → Reading (List A)
after found r = bind r (λ others left. Read (found ++ others) left)

-- what stands behind the first operand of a comparison, and of a chain of a level
abbrev pub comparison_rest : Expr → Form Expr → Parser Expr
comparison_rest first operand = read_value (λ x. compared (first, x)) (maybe (both (operator 5) operand)).parse

abbrev pub chain_rest : ℕ → Expr → Form Expr → Parser Expr
chain_rest n first operand = read_value (λ xs. grouped (first, xs)) (any (both (operator n) operand)).parse

-- what stands behind the first argument
abbrev pub args_rest : Arg → Parser (List Arg)
args_rest first = read_value (λ others. first ∷ others) (any more_arg).parse

-- a program that goes on after the records and iterators found so far
abbrev pub program_after : List RecordDecl → List Iter → Reading (List Decl) → Reading Program
program_after records iters r = bind r (λ ds left. Read (record { records = records ++ records_of ds; iters = iters ++ iters_of ds }) left)

-- what is answered of a token list, in a text that ends at `end`
abbrev pub TokensParsed : ℕ → List Token → Result Program SyntaxFault → Type 0
TokensParsed end ts (Ok p) = IsProgram ts p
TokensParsed end ts (Err (F.Lex place)) = ⊥
TokensParsed end ts (Err (F.Deep place)) = ⊥
TokensParsed end ts (Err (F.Syntax place)) = (number : ℕ) × StopsAt ts number × (place ≡ offset_of end (slice_get ts number))
TokensParsed end ts (Err F.Memory) = Unit {0}
