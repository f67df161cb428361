-- Programs with their places taken away, to compare them by their meaning alone.
use Rattle.std.specs.Prelude.{◌≡◌, ℕ, List, map}
use Rattle.iter_syntax.specs.Names.{Place, Word, FieldDecl, RecordDecl, Arg, Iter, Program}
use Rattle.iter_syntax.specs.Tree.{Ex, num, null, name, cur, cur_field, cur_item, pad_field, pad_item, not, flip, bin, at, Sts, end, bind, set, set_pad, set_pad_item, set_cur, set_cur_item, when, choose, loop, done, go, block}
use Rattle.iter_syntax.specs.Parsed.{IsProgramOf}
use Rattle.iter_syntax.specs.Printed.{printed}

-- the place that stands for any
abbrev pub nowhere : Place
nowhere = record { 0 = 0 }

abbrev pub bare_word : Word → Word
bare_word w = record { place = nowhere; text = w.text }

abbrev pub bare_expr : Ex → Ex
bare_expr (num p n) = num nowhere n
bare_expr (null p) = null nowhere
bare_expr (name w) = name (bare_word w)
bare_expr (cur p) = cur nowhere
bare_expr (cur_field p w) = cur_field nowhere (bare_word w)
bare_expr (cur_item p w i) = cur_item nowhere (bare_word w) (bare_expr i)
bare_expr (pad_field p w) = pad_field nowhere (bare_word w)
bare_expr (pad_item p w i) = pad_item nowhere (bare_word w) (bare_expr i)
bare_expr (not p e) = not nowhere (bare_expr e)
bare_expr (flip p e) = flip nowhere (bare_expr e)
bare_expr (bin p op a b) = bin nowhere op (bare_expr a) (bare_expr b)
bare_expr (at p a b) = at nowhere (bare_expr a) (bare_expr b)

abbrev pub bare_stmts : Sts → Sts
bare_stmts end = end
bare_stmts (bind p w e rest) = bind nowhere (bare_word w) (bare_expr e) (bare_stmts rest)
bare_stmts (set p w e rest) = set nowhere (bare_word w) (bare_expr e) (bare_stmts rest)
bare_stmts (set_pad p w e rest) = set_pad nowhere (bare_word w) (bare_expr e) (bare_stmts rest)
bare_stmts (set_pad_item p w i e rest) = set_pad_item nowhere (bare_word w) (bare_expr i) (bare_expr e) (bare_stmts rest)
bare_stmts (set_cur p w e rest) = set_cur nowhere (bare_word w) (bare_expr e) (bare_stmts rest)
bare_stmts (set_cur_item p w i e rest) = set_cur_item nowhere (bare_word w) (bare_expr i) (bare_expr e) (bare_stmts rest)
bare_stmts (when p t first rest) = when nowhere (bare_expr t) (bare_stmts first) (bare_stmts rest)
bare_stmts (choose p t first other rest) = choose nowhere (bare_expr t) (bare_stmts first) (bare_stmts other) (bare_stmts rest)
bare_stmts (loop p w first past body rest) = loop nowhere (bare_word w) first past (bare_stmts body) (bare_stmts rest)
bare_stmts (done p rest) = done nowhere (bare_stmts rest)
bare_stmts (go p e rest) = go nowhere (bare_expr e) (bare_stmts rest)

abbrev pub bare_field : FieldDecl → FieldDecl
bare_field f = record { name = bare_word f.name; width = f.width; len = f.len }

abbrev pub bare_record : RecordDecl → RecordDecl
bare_record r = record { place = nowhere; name = bare_word r.name; fields = map bare_field r.fields }

abbrev pub bare_arg : Arg → Arg
bare_arg a = record { name = bare_word a.name; pointer = a.pointer }

-- an iterator without places, its blocks as statement lists
pub record BareIter : Type 0 where
  pub name : Word
  pub on : Word
  pub pad : List FieldDecl
  pub args : List Arg
  pub init_part : Sts
  pub end_part : Sts
  pub next_part : Sts

abbrev pub bare_iter : Iter → BareIter
bare_iter i = record {
  name = bare_word i.name;
  on = bare_word i.on;
  pad = map bare_field i.pad;
  args = map bare_arg i.args;
  init_part = bare_stmts (block i.init_part);
  end_part = bare_stmts (block i.end_part);
  next_part = bare_stmts (block i.next_part);
}

-- two programs are the same, places aside
pub record SameProgram (p q : Program) : Type 0 where
  pub records : map bare_record p.records ≡ map bare_record q.records
  pub iters : map bare_iter p.iters ≡ map bare_iter q.iters

-- the printed form of a program that some text has is a text that has that program, places aside
abbrev pub ReadsBack : Program → Type 0
ReadsBack p = (text : List ℕ) → IsProgramOf text p → (q : Program) × IsProgramOf (printed p) q × SameProgram q p
