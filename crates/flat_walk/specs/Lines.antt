-- What a user reads of a refused document.
use Rattle.std.specs.Prelude.{ℕ, List, codes}
use Rattle.scenario_text.specs.Lines as document
use Rattle.flat_walk.specs.declared.fault.WalkFault.{WalkFault}
use Rattle.flat_walk.specs.declared.fault.WalkFault.TheVariants as fault

abbrev pub words_of : WalkFault → List ℕ
words_of (fault.Document f) = document.words_of f
words_of fault.Form = codes "document limit walk"
words_of fault.Memory = codes "memory"
