-- A grammar with what reads it by one token ahead: a parser, the tokens that may begin a form,
-- those that may go on with a whole one, and whether nothing is a whole one.
-- What a form means is its grammar alone.
use Rattle.std.specs.Prelude.{Bool, true, false, if◌then◌else◌, ◌||◌, List, Option}
use Rattle.iter_syntax.specs.Names.{Token}
use Rattle.iter_syntax.specs.Grammar.{Grammar, token, pair, value, many, optional, either, nothing}
use Rattle.iter_syntax.specs.Steps.Parsers.{Parser, Stuck, read_token, read_pair, read_value, read_many, read_optional, read_either}

pub record Form (A : Type 0) : Type 1 where
  pub grammar : Grammar A
  pub parse : Parser A
  pub first : Token → Bool
  pub more : Token → Bool
  pub empty : Bool

abbrev pub one : (Token → Bool) → Form Token
one kind = record { grammar = token kind; parse = read_token kind; first = kind; more = λ t. false; empty = false }

abbrev pub both : {A B : Type 0} → Form A → Form B → Form (A × B)
both a b = record {
  grammar = pair a.grammar b.grammar;
  parse = read_pair a.parse b.parse;
  first = λ t. if a.empty then a.first t || b.first t else a.first t;
  more = λ t. if b.empty then b.more t || (b.first t || a.more t) else b.more t;
  empty = if a.empty then b.empty else false;
}

abbrev pub gives : {A B : Type 0} → (A → B) → Form A → Form B
gives f a = record { grammar = value f a.grammar; parse = read_value f a.parse; first = a.first; more = a.more; empty = a.empty }

abbrev pub any : {A : Type 0} → Form A → Form (List A)
any a = record { grammar = many a.grammar; parse = read_many a.first a.parse; first = a.first; more = λ t. a.first t || a.more t; empty = true }

abbrev pub maybe : {A : Type 0} → Form A → Form (Option A)
maybe a = record { grammar = optional a.grammar; parse = read_optional a.first a.parse; first = a.first; more = λ t. a.first t || a.more t; empty = true }

abbrev pub or : {A : Type 0} → Form A → Form A → Form A
or a b = record {
  grammar = either a.grammar b.grammar;
  parse = read_either a.first a.parse b.parse;
  first = λ t. a.first t || b.first t;
  more = λ t. a.more t || b.more t;
  empty = false;
}

-- a form with larger sets, by which a recursive form is known before its turn
abbrev pub framed : {A : Type 0} → (Token → Bool) → (Token → Bool) → Form A → Form A
framed first more a = record { grammar = a.grammar; parse = a.parse; first = first; more = more; empty = false }

-- the form that nothing is
abbrev pub none : {A : Type 0} → (Token → Bool) → (Token → Bool) → Form A
none first more = record { grammar = nothing; parse = λ ts. Stuck ts; first = first; more = more; empty = false }
