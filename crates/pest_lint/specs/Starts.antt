-- The values of an argument.
use Rattle.std.specs.Prelude.{ℕ, List, [], map, option_map, unwrap_or}
use Rattle.std.specs.Borrow.{Bor}
use Rattle.clap.specs.Matches.{found_of, matched_of, raw_values}
use Rattle.clap.specs.declared.parser.matches.ArgMatches.{ArgMatches}

-- the values that a command line has of an argument
abbrev pub values_of : ArgMatches → List ℕ → List (List ℕ)
values_of matches id = unwrap_or (option_map raw_values (matched_of (found_of matches) id)) []

abbrev pub names_of : List (Bor (List ℕ)) → List (List ℕ)
names_of texts = map (λ text. text.now) texts
