-- What a user reads of a fault: `program`, the word of its kind, and its place.
use Rattle.std.specs.Prelude.{ℕ, List, ◌++◌, codes, decimal}
use Rattle.iter_check.specs.declared.kind.CheckKind.{CheckKind}
use Rattle.iter_check.specs.declared.kind.CheckKind.TheVariants as k
use Rattle.iter_check.specs.declared.kind.CheckError.{CheckError}
use Rattle.iter_check.specs.declared.kind.CheckError.TheVariants as error

abbrev pub kind_word : CheckKind → List ℕ
kind_word k.Name = codes "name"
kind_word k.Typing = codes "type"
kind_word k.Path = codes "path"
kind_word k.RecordSize = codes "record"
kind_word k.PadSize = codes "pad"
kind_word k.ArgCount = codes "args"
kind_word k.LocalCount = codes "locals"
kind_word k.Depth = codes "depth"
kind_word k.LoopTurns = codes "loop"
kind_word k.Count = codes "count"
kind_word k.Code = codes "code"
kind_word k.Index = codes "index"

abbrev pub error_words : CheckError → List ℕ
error_words (error.Fault kind place) = codes "program " ++ kind_word kind ++ codes " " ++ decimal place
error_words error.Memory = codes "memory"
