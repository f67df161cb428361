use Rattle.shape_build.proofs.tree.+put_upper.Given as goal

abbrev pub decreases-put_upper : goal.decreases-put_upper
decreases-put_upper l = l.most
