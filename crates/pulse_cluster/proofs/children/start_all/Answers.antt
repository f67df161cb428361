use Rattle.std.proofs.Common.{◌≡◌, ◌+◌, map, slice_get, ap, ◌∙◌, arith, rules}
use Rattle.std.specs.String.{string_bytes}
use Rattle.pulse_cluster.specs.Cluster.{child_words, node_words, switch_words}
use Rattle.pulse_cluster.proofs.Families.{next_start, one_longer, node_at, switch_at}
use Rattle.pulse_cluster.proofs.children.start_all.Goals as goal

pub nodes-preserved : goal.nodes-preserved
nodes-preserved g c =
    let words = child_words c.args.turns 0 c.args.nodes in
    let given = map string_bytes c.as_slice.result.now in
    record {
      family =
          next_start (g.S.Spawner.family c.args.kids.now) (g.S.Spawner.family c.nodes.kids) (g.S.Spawner.family c.start.new.kids) c.args.text.now words (node_words c.nodes.n c.args.turns) given
          c.nodes.started.items c.start.new.started.items c.nodes.invariant.family
          (ap (slice_get words) c.nodes.invariant.all ∙ node_at c.args.turns c.args.nodes c.nodes.n c.nodes-test.true)
          (ap (map string_bytes) c.as_slice.ensures.value ∙ c.in_ok-words.ensures) c.in_ok-start.ensures.started;
      all =
          one_longer (g.S.Spawner.family c.nodes.kids) (g.S.Spawner.family c.start.new.kids) given c.args.text.now c.nodes.started.items c.start.new.started.items c.in_ok-start.ensures.started
          ∙ ap (λ l. l + 1) c.nodes.invariant.all;
      kept = search rules;
    }

pub returns-clause-started : goal.returns-clause-started
returns-clause-started g c =
    let words = child_words c.args.turns 0 c.args.nodes in
    let last : c.nodes.n ≡ c.args.nodes = omega (arith, c.nodes-test.false, c.nodes.auto.n-end) in
    next_start (g.S.Spawner.family c.args.kids.now) (g.S.Spawner.family c.nodes.kids) (g.S.Spawner.family c.start-2.new.kids) c.args.text.now words (switch_words c.args.turns)
    (map string_bytes c.as_slice-2.result.now) c.nodes.started.items c.start-2.new.started.items c.nodes.invariant.family
    (ap (slice_get words) (c.nodes.invariant.all ∙ last) ∙ switch_at c.args.turns c.args.nodes)
    (ap (map string_bytes) c.as_slice-2.ensures.value ∙ c.in_ok-words-2.ensures) c.in_ok-start-2.ensures.started
