-- Which commands call which of the ends of the outside. An end that is not called stays as it was.
use Rattle.std.specs.Prelude.{◌≡◌, List, ℕ, Bool, true, false}
use Rattle.pulse_words.specs.declared.command.Command.{Command}
use Rattle.pulse_words.specs.declared.command.Command.TheVariants as c
use Rattle.pulse_words.specs.Words.{IsCommand}

-- all but those that make their document read the input
abbrev pub reads_input : Command → Bool
reads_input (c.Shape shape) = false
reads_input (c.Drill shape) = false
reads_input _ = true

abbrev pub uses_yard : Command → Bool
uses_yard c.Walk = true
uses_yard c.Replay = true
uses_yard (c.Drill shape) = true
uses_yard (c.Node node turns) = true
uses_yard _ = false

abbrev pub uses_net : Command → Bool
uses_net (c.Node node turns) = true
uses_net (c.Switch turns) = true
uses_net (c.Ask client turns) = true
uses_net (c.Cluster turns) = true
uses_net _ = false

abbrev pub uses_kids : Command → Bool
uses_kids (c.Cluster turns) = true
uses_kids _ = false

-- the words are a command of which this is true
pub record Names (of : Command → Bool) (words : List (List ℕ)) : Type 0 where
  pub command : Command
  pub named : IsCommand words command
  pub is : of command ≡ true
