use Rattle.std.proofs.Common.{◌≡◌, ◌∙◌, ◌++◌, ℕ, OnOk, ap, length, nat_lt, rules, string_bytes, subst, take}
use Rattle.std.proofs.lemmas.Str.{chars_from_encodes}
use Rattle.std.specs.Str.{chars}
use Rattle.program_support.specs.Excerpts.{columns_of, dashes}
use Rattle.program_support.proofs.excerpt.push_span_mark.Goals as goal

pub returns : goal.returns
returns c =
    let after = chars c.args.after.now in
    let counted : c.count.result ≡ length after = search (rules, chars_from_encodes) in
    let columns : c.width_of.result ≡ columns_of (take c.args.count after) = c.width_of.ensures ∙ ap columns_of c.split_at_char.ensures.first in
    let P : ℕ → ℕ → Type 0 = λ n k. OnOk c.push_dashes.result (string_bytes c.push_dashes.new.out ≡ string_bytes c.args.out.now ++ dashes n (nat_lt k c.args.count)) in
    subst (λ n. P n (length after)) columns (subst (λ k. P c.width_of.result k) counted c.push_dashes.ensures)
