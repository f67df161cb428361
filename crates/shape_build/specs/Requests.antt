-- The events and the requests of a document.
use Rattle.std.specs.Prelude.{ℕ, ◌+◌, ◌*◌, ◌%◌, List, ◌++◌, codes, decimal, nat_eq, nat_lt, if◌then◌else◌}
use Rattle.shape_build.specs.Draws.{draw}
use Rattle.shape_build.specs.Text.{below}

unfoldable pub event_line : List ℕ → ℕ → List ℕ
event_line name number = codes "\"" ++ name ++ decimal number ++ codes "\",\n"

-- the event of two draws, the e-th behind the asks of so many requests
unfoldable pub event_text : (requests e a b : ℕ) → List ℕ
event_text requests e a b =
    if nat_lt (a % 4) 2 then event_line (codes "deliver ") (b % (requests + e))
    else (if nat_eq (a % 4) 2 then event_line (codes "turn ") (b % 4)
    else event_line (codes "tick ") (b % requests))

-- an ask of each request, and 900 events of the draws from `first` on
unfoldable pub events_text : (requests seed first : ℕ) → List ℕ
events_text requests seed first =
    below requests (event_line (codes "ask "))
    ++ below 900 (λ e. event_text requests e (draw seed (first + 2 * e)) (draw seed (first + 2 * e + 1)))
    ++ codes "]\n"

unfoldable pub request_text : (iter args : List ℕ) → List ℕ
request_text iter args = codes "[[request]]\niter = \"" ++ iter ++ codes "\"\nargs = [" ++ args ++ codes "]\n"

unfoldable pub two : ℕ → ℕ → List ℕ
two a b = decimal a ++ codes ", " ++ decimal b

unfoldable pub three : ℕ → ℕ → ℕ → List ℕ
three a b c = two a b ++ codes ", " ++ decimal c
