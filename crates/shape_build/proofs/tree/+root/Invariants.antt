use Rattle.shape_build.proofs.tree.+root.Given as goal

abbrev pub decreases-root : goal.decreases-root
decreases-root l = l.most
