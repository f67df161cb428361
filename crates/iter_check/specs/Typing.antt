-- The types of expressions: int, bool and ptr. An expression that holds a fault of a name or of a type has none.
use Rattle.std.specs.Prelude.{Bool, true, false, not, ◌&&◌, ◌||◌, Option, Some, None, is_some, is_none}
use Rattle.iter_syntax.specs.declared.tree.Width.{Width}
use Rattle.iter_syntax.specs.declared.tree.Width.TheVariants as width
use Rattle.iter_syntax.specs.declared.tree.FieldDecl.{FieldDecl}
use Rattle.iter_syntax.specs.declared.tree.BinaryOp.{BinaryOp}
use Rattle.iter_syntax.specs.declared.tree.BinaryOp.TheVariants as op
use Rattle.iter_syntax.specs.Tree.{Ex}
use Rattle.iter_syntax.specs.Tree as t
use Rattle.iter_check.specs.declared.sort.Sort.{Sort}
use Rattle.iter_check.specs.declared.sort.Sort.TheVariants as s
use Rattle.iter_check.specs.declared.sort.Part.{Part}
use Rattle.iter_check.specs.declared.sort.Part.TheVariants as part
use Rattle.iter_check.specs.declared.scope.Binding.{Binding}
use Rattle.iter_check.specs.Scope.{Scope, Ground, bound, declared_field}

abbrev pub same_sort : Sort → Sort → Bool
same_sort s.Int s.Int = true
same_sort s.Ptr s.Ptr = true
same_sort s.Bool s.Bool = true
same_sort a b = false

-- there is a type, and it is not the one that is wanted
abbrev pub is_not : Sort → Option Sort → Bool
is_not wanted None = false
is_not wanted (Some a) = not (same_sort wanted a)

-- there are two types, and they differ
abbrev pub differ : Option Sort → Option Sort → Bool
differ None b = false
differ (Some a) b = is_not a b

abbrev pub is_bool : Option Sort → Bool
is_bool None = false
is_bool (Some a) = same_sort a s.Bool

-- the rule of a binary operator fails: `||` and `&&` take two bool, `==` and `!=` two int or two ptr, the others two int
abbrev pub clash : BinaryOp → Option Sort → Option Sort → Bool
clash op.Or a b = is_not s.Bool a || is_not s.Bool b
clash op.And a b = is_not s.Bool a || is_not s.Bool b
clash op.Eq a b = is_bool a || (is_bool b || differ a b)
clash op.Ne a b = is_bool a || (is_bool b || differ a b)
clash o a b = is_not s.Int a || is_not s.Int b

-- the rule of `at` fails: it takes ptr and int
abbrev pub no_address : Option Sort → Option Sort → Bool
no_address a b = is_not s.Ptr a || is_not s.Int b

-- the type that a binary operator gives
abbrev pub gives : BinaryOp → Sort
gives op.Or = s.Bool
gives op.And = s.Bool
gives op.Eq = s.Bool
gives op.Ne = s.Bool
gives op.Lt = s.Bool
gives op.Le = s.Bool
gives op.Gt = s.Bool
gives op.Ge = s.Bool
gives o = s.Int

abbrev pub sort_if : Bool → Sort → Option Sort
sort_if true sort = Some sort
sort_if false sort = None

-- a type where the part, or each of the two parts, has one and the rule does not fail
abbrev pub of_one : Option Sort → Bool → Sort → Option Sort
of_one a fails sort = sort_if (is_some a && not fails) sort

abbrev pub of_two : Option Sort → Option Sort → Bool → Sort → Option Sort
of_two a b fails sort = sort_if (is_some a && (is_some b && not fails)) sort

-- the type of a name in scope
abbrev pub name_sort : Option Binding → Option Sort
name_sort None = None
name_sort (Some b) = b.sort

-- fields of ptr are ptr, and all others int
abbrev pub width_sort : Width → Sort
width_sort width.Ptr = s.Ptr
width_sort w = s.Int

-- the type of a field with no index, and with an index of a type; an array has an index and another field has none
abbrev pub plain_sort : Option FieldDecl → Option Sort
plain_sort None = None
plain_sort (Some f) = sort_if (is_none f.len) (width_sort f.width)

abbrev pub item_sort : Option FieldDecl → Option Sort → Option Sort
item_sort None index = None
item_sort (Some f) None = None
item_sort (Some f) (Some index) = sort_if (is_some f.len && same_sort index s.Int) (width_sort f.width)

abbrev pub in_init : Part → Bool
in_init part.Init = true
in_init part.End = false
in_init part.Next = false

-- what begins with `cur` has no type in init
abbrev pub of_cur : Part → Option Sort → Option Sort
of_cur part.Init sort = None
of_cur part.End sort = sort
of_cur part.Next sort = sort

-- the type of an expression
abbrev pub sort_of : Ground → Scope → Ex → Option Sort
sort_of g scope (t.num p n) = Some s.Int
sort_of g scope (t.null p) = Some s.Ptr
sort_of g scope (t.name w) = name_sort (bound scope w)
sort_of g scope (t.cur p) = of_cur g.part (Some s.Ptr)
sort_of g scope (t.cur_field p w) = of_cur g.part (plain_sort (declared_field g.record_fields w))
sort_of g scope (t.cur_item p w i) = of_cur g.part (item_sort (declared_field g.record_fields w) (sort_of g scope i))
sort_of g scope (t.pad_field p w) = plain_sort (declared_field g.pad_fields w)
sort_of g scope (t.pad_item p w i) = item_sort (declared_field g.pad_fields w) (sort_of g scope i)
sort_of g scope (t.not p e) = of_one (sort_of g scope e) (is_not s.Bool (sort_of g scope e)) s.Bool
sort_of g scope (t.flip p e) = of_one (sort_of g scope e) (is_not s.Int (sort_of g scope e)) s.Int
sort_of g scope (t.bin p o a b) = of_two (sort_of g scope a) (sort_of g scope b) (clash o (sort_of g scope a) (sort_of g scope b)) (gives o)
sort_of g scope (t.at p a b) = of_two (sort_of g scope a) (sort_of g scope b) (no_address (sort_of g scope a) (sort_of g scope b)) s.Ptr
