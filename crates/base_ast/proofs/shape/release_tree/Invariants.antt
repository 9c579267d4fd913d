use Rattle.base_ast.proofs.shape.release_tree.Given as goal

abbrev pub decreases-parts : goal.decreases-parts
decreases-parts g l = g.T.Shaped.heaviness l.rest
