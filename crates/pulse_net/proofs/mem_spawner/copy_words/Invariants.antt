use Rattle.std.proofs.Common.{◌≡◌, ◌-◌, ◌≤◌, length, map, take}
use Rattle.std.specs.String.{string_bytes}
use Rattle.pulse_net.proofs.mem_spawner.copy_words.Given as goal

abbrev pub invariant-words : goal.invariant-words
invariant-words l = record {
  inside : l.at ≤ length l.words;
  found : l.copies ≡ map string_bytes (take l.at l.words);
}

abbrev pub decreases-words : goal.decreases-words
decreases-words l = length l.words - l.at
