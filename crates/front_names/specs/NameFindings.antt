-- Findings about names, as complaints.
use Rattle.std.specs.Prelude.{◌≡◌, ◌≢◌, List, [], map, ⊤}
use Rattle.base_language.specs.Pieces.Saying.{Complaint, piece_of, written}
use Rattle.front_names.specs.Messages.{about}
use Rattle.front_names.specs.declared.findings.NameError.{NameError}
use Rattle.front_names.specs.declared.findings.NameError.TheVariants as error_is
use Rattle.front_names.specs.declared.findings.NameFinding.{NameFinding}

-- the message and the piece of a finding
abbrev pub complaint_of : NameFinding → Complaint
complaint_of finding = record {
  message = about finding.problem (written (piece_of finding.span));
  span = piece_of finding.span;
}

abbrev pub told_by : List NameFinding → List Complaint
told_by findings = map complaint_of findings

-- allocation failure, or just the findings that there are, at least one
abbrev pub AreNameFindings : List Complaint → NameError → Type 0
AreNameFindings complaints (error_is.Memory e) = ⊤
AreNameFindings complaints (error_is.Found findings) =
    (complaints ≢ []) × (told_by findings.items ≡ complaints)
