-- The word that a command begins with.
use Rattle.std.specs.Prelude.{ℕ, Bool, true, false, List, codes}
use Rattle.pulse_words.specs.declared.command.Command.{Command}
use Rattle.pulse_words.specs.declared.command.Command.TheVariants as c

abbrev pub first_word : Command → List ℕ
first_word c.Walk = codes "walk"
first_word c.Replay = codes "replay"
first_word c.Check = codes "check"
first_word c.Format = codes "format"
first_word (c.Compile name) = codes "compile"
first_word c.List = codes "list"
first_word c.Verify = codes "verify"
first_word (c.Shape shape) = codes "shape"
first_word (c.Drill shape) = codes "drill"
first_word (c.Node node turns) = codes "node"
first_word (c.Switch turns) = codes "switch"
first_word (c.Ask client turns) = codes "ask"
first_word (c.Cluster turns) = codes "cluster"

-- the command has no other word
abbrev pub is_plain : Command → Bool
is_plain c.Walk = true
is_plain c.Replay = true
is_plain c.Check = true
is_plain c.Format = true
is_plain c.List = true
is_plain c.Verify = true
is_plain _ = false
