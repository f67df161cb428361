-- What a refusal says.
use Rattle.std.specs.Prelude.{ℕ, Bool, true, false, List, ◌++◌, codes, decimal}
use Rattle.code_verify.specs.declared.bad.BadKind.{BadKind}
use Rattle.code_verify.specs.declared.bad.BadKind.TheVariants as b
use Rattle.code_image.specs.declared.fault.ImageFault.{ImageFault}
use Rattle.code_image.specs.declared.fault.ImageFault.TheVariants as f

abbrev pub rule_name : BadKind → List ℕ
rule_name b.Empty = codes "empty"
rule_name b.TooLong = codes "too_long"
rule_name b.NoLoad = codes "no_load"
rule_name b.SecondLoad = codes "second_load"
rule_name b.Register = codes "register"
rule_name b.Kind = codes "kind"
rule_name b.Window = codes "window"
rule_name b.Pad = codes "pad"
rule_name b.Jump = codes "jump"
rule_name b.FallsOff = codes "falls_off"

abbrev pub segment_name : Bool → List ℕ
segment_name false = codes "init"
segment_name true = codes "body"

abbrev pub fault_text : ImageFault → List ℕ
fault_text f.Short = codes "image short"
fault_text f.Magic = codes "image magic"
fault_text f.Version = codes "image version"
fault_text f.Size = codes "image size"
fault_text f.Long = codes "image long"
fault_text (f.Word k) = codes "image word " ++ decimal k
fault_text (f.Bad body bad) = codes "image bad " ++ segment_name body ++ codes " " ++ decimal bad.at ++ codes " " ++ rule_name bad.kind
fault_text f.Memory = codes "memory"
