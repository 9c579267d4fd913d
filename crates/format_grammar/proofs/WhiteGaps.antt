-- A gap of white space alone has no comments.
use Rattle.std.proofs.Common.{◌≡◌, refl, sym, ◌∙◌, ℕ, ◌++◌, ◌==◌, ◌&&◌, List, [], ◌∷◌, Bool, true, false, if◌then◌else◌}
use Rattle.std.proofs.lemmas.Bool.{eqb-true, false≢true}
use Rattle.format_grammar.specs.Comments.{is_blank, is_white, is_all_white, begins_with_line_feed, trimmed, marked, kept_from, comments_of}
use Rattle.format_grammar.specs.declared.contents.GapState.TheVariants.{Outside}

no_slash : (b : Bool) (c : ℕ) → (c == 47) ≡ b → is_white c ≡ true → b ≡ false
no_slash false c e h = refl
no_slash true c e h =
    let f : c ≡ 47 = eqb-true c 47 e in
    absurd (false≢true (rw f at h))

skips_white : (c : ℕ) (cs : List ℕ) → is_white c ≡ true → kept_from Outside (marked (c ∷ cs)) ≡ kept_from Outside (marked cs)
skips_white c cs h =
    let s : (c == 47) ≡ false = no_slash (c == 47) c refl h in
    rw (h, s)

skips : (b : Bool) (c : ℕ) (cs : List ℕ) → is_white c ≡ true → kept_from Outside (marked (if b then cs else c ∷ cs)) ≡ kept_from Outside (marked cs)
skips true c cs h = refl
skips false c cs h = skips_white c cs h

split : (a b : Bool) → (a && b) ≡ true → (a ≡ true) × (b ≡ true)
split true true h = (refl, refl)
split true false h = absurd (false≢true h)
split false b h = absurd (false≢true h)

pub no_comments : (gap : List ℕ) → is_all_white gap ≡ true → comments_of gap ≡ []
no_comments [] h = refl
no_comments (c ∷ cs) h =
    let p = split (is_white c) (is_all_white cs) h in
    let rest = trimmed (cs ++ 10 ∷ []) in
    skips (is_blank c && begins_with_line_feed rest) c rest p.0 ∙ no_comments cs p.1

pub same_white : (gap other : List ℕ) → is_all_white gap ≡ true → is_all_white other ≡ true → comments_of gap ≡ comments_of other
same_white gap other g h = no_comments gap g ∙ sym (no_comments other h)
