use Rattle.std.proofs.Common.{◌≡◌, ◌++◌, drop}
use Rattle.code_image.specs.Listing.{places_text}
use Rattle.code_image.proofs.lister.put_places.Given as goal

abbrev pub invariant-places : goal.invariant-places
invariant-places l = l.fn.text ++ places_text 0 l.code ≡ l.text ++ places_text l.place (drop l.place l.code)
