use Rattle.std.proofs.Common.{◌≡◌, ◌+◌, ◌-◌, ◌≤◌, ◌++◌, length, drop}
use Rattle.layout_text.specs.Decls.{decls_text, layout_text}
use Rattle.layout_text.proofs.DeclsLaws.{Small}
use Rattle.layout_text.proofs.decls.layout.Given as goal

-- the records and iterators that are left, in order
abbrev pub invariant-decls : goal.invariant-decls
invariant-decls l = record {
  text : layout_text l.checked ≡ l.text ++ decls_text l.records (drop l.at l.checked.iters);
  within : l.at ≤ length l.checked.iters;
  small : Small l.records;
}

abbrev pub decreases-decls : goal.decreases-decls
decreases-decls l = length l.records + (length l.checked.iters - l.at)
