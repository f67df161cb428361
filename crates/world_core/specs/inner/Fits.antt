-- What holds of a scene at every moment.
use Rattle.std.specs.Prelude.{◌≡◌, ℕ, ◌<◌, length, Some, slice_get}
use Rattle.frame_codec.specs.declared.frame.Frame.TheVariants as frame
use Rattle.frame_codec.specs.Spelling.{MeetsRules}
use Rattle.run_rules.specs.declared.switch.Out.{Out}
use Rattle.run_rules.specs.declared.switch.Out.TheVariants as out
use Rattle.run_rules.specs.Switch.{SwitchState}
use Rattle.run_rules.specs.Waiting.{Each}
use Rattle.client_core.specs.Requests.{ClientState}
use Rattle.world_core.specs.declared.letter.To.{To}
use Rattle.world_core.specs.declared.letter.To.TheVariants as to
use Rattle.world_core.specs.declared.letter.Content.{Content}
use Rattle.world_core.specs.declared.letter.Content.TheVariants as content
use Rattle.world_core.specs.declared.letter.Letter.{Letter}
use Rattle.world_core.specs.inner.Clients.{HasAt}
use Rattle.world_core.specs.Scene.{Member, Scene}

-- to a node that is there goes a leg, to a client that is there a back
abbrev pub GoesTo : (nodes clients : ℕ) → To → Content → Type 0
GoesTo nodes clients to.Switch x = Unit {0}
GoesTo nodes clients (to.Node n) (content.Leg l) = n < nodes
GoesTo nodes clients (to.Node n) (content.Back b) = ⊥
GoesTo nodes clients (to.Client c) (content.Leg l) = ⊥
GoesTo nodes clients (to.Client c) (content.Back b) = c < clients

abbrev pub LetterFits : (nodes clients : ℕ) → Letter → Type 0
LetterFits nodes clients m = GoesTo nodes clients m.to m.content

-- the switch knows just the clients and nodes that are there
pub record SwitchFits (s : SwitchState) (nodes clients : ℕ) : Type 0 where
  pub known : s.clients ≡ clients
  pub owned : length s.owners ≡ length s.table
  pub owners : Each (λ o. o < nodes) s.owners

-- each request is its home's and no other client's
pub record IsScene (s : Scene) : Type 0 where
  pub switch : SwitchFits s.switch (length s.nodes) (length s.clients)
  pub nodes : Each (λ (m : Member). m.part.images ≡ s.images) s.nodes
  pub clients : Each (λ (c : ClientState). c.images ≡ s.images) s.clients
  pub homes : (r c : ℕ) → slice_get s.homes r ≡ Some c → HasAt s.clients c r
  pub owned : (r c : ℕ) → HasAt s.clients c r → slice_get s.homes r ≡ Some c
  pub letters : Each (LetterFits (length s.nodes) (length s.clients)) s.letters

-- what the switch gives can be sent
abbrev pub OutMeets : Out → Type 0
OutMeets (out.ToNode n l) = MeetsRules (frame.Leg l)
OutMeets (out.ToClient c b) = MeetsRules (frame.Back b)
OutMeets out.Nothing = Unit {0}

-- and goes to a node or a client that is there
abbrev pub OutFits : (nodes clients : ℕ) → Out → Type 0
OutFits nodes clients (out.ToNode n l) = n < nodes
OutFits nodes clients (out.ToClient c b) = c < clients
OutFits nodes clients out.Nothing = Unit {0}
