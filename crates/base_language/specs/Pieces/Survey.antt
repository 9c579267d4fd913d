-- The view of a survey.
use Rattle.std.specs.Prelude.{ℕ, List}
use Rattle.base_language.specs.declared.runtime.surveys.Survey.{Survey}

-- the text that is surveyed, as bytes
abbrev pub survey_text : Survey → List ℕ
survey_text survey = survey.text.now
