-- Versions as a JSON value.
use Rattle.std.specs.Prelude.{codes}
use Rattle.serde_json.specs.Data.{Data, member, no_members, object, string}
use Rattle.format_json.specs.Errors.{size_data}

-- the number of the format, and the version of the original crate that is ported
abbrev pub version_data : Data
version_data =
    object (member (codes "format") (size_data 1)
    (member (codes "version") (string (codes "2.9.5")) no_members))
