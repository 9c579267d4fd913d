-- The calls of paths in one list.
use Rattle.std.specs.Prelude.{ℕ, suc, List, [], ◌∷◌, ◌++◌, map}
use Rattle.matcher_code.specs.declared.state.OpenCall.{OpenCall}
use Rattle.pest_meta_c.specs.declared.paths.PathCall.{PathCall}

-- a call of the path of a number
abbrev pub with_path : ℕ → OpenCall → PathCall
with_path k c = record { path = k; rule = c.rule; start = c.start }

-- the calls of paths, path by path, the first of which has a number
abbrev pub calls_in : ℕ → List (List OpenCall) → List PathCall
calls_in k [] = []
calls_in k (p ∷ ps) = map (with_path k) p ++ calls_in (suc k) ps
