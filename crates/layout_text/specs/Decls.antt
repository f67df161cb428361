-- What `check` writes: a line for each record and iterator in the order of the text, each with a line for each field
-- of the record or the pad.
use Rattle.std.specs.Prelude.{ℕ, List, ◌++◌, length, flat_map, codes, decimal}
use Rattle.iter_syntax.specs.declared.tree.RecordDecl.{RecordDecl}
use Rattle.iter_syntax.specs.declared.tree.Iter.{Iter}
use Rattle.iter_syntax.specs.declared.tree.Program.{Program}
use Rattle.iter_syntax.specs.Productions.{Decl, a_record, an_iter}
use Rattle.iter_syntax.specs.Printed.{in_order}
use Rattle.iter_check.specs.Layout.{text, size_of}
use Rattle.iter_check.specs.FaultList.{init_nodes, body_nodes}
use Rattle.layout_text.specs.Fields.{fields_text}

abbrev pub record_text : RecordDecl → List ℕ
record_text r = codes "record " ++ text r.name ++ codes " " ++ decimal (size_of r.fields) ++ codes "\n" ++ fields_text 0 r.fields

-- the line of an iterator, with the nodes of its init and of its body
abbrev pub head_text : Iter → ℕ → ℕ → List ℕ
head_text i init body =
    codes "iter " ++ text i.name ++ codes " " ++ text i.on ++ codes " pad " ++ decimal (size_of i.pad) ++ codes " args " ++ decimal (length i.args)
    ++ codes " nodes " ++ decimal init ++ codes " " ++ decimal body ++ codes "\n"

abbrev pub iter_text : Iter → List ℕ
iter_text i = head_text i (init_nodes i) (body_nodes i) ++ fields_text 0 i.pad

abbrev pub decl_text : Decl → List ℕ
decl_text (a_record r) = record_text r
decl_text (an_iter i) = iter_text i

abbrev pub decls_text : List RecordDecl → List Iter → List ℕ
decls_text records iters = flat_map decl_text (in_order records iters)

abbrev pub layout_text : Program → List ℕ
layout_text p = decls_text p.records p.iters
