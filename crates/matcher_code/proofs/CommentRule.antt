-- The rule that matches comments within comments.
use Rattle.std.proofs.Common.{◌≡◌, ◌<◌, ◌≤◌, ◌-◌, ◌+◌, inl, inr, refl, sym, ◌∙◌, ap, subst, ℕ, zero, suc, List, [], ◌∷◌, Bool, true, false, ◌==◌, Some, nat_eq, drop, take, drop-drop, length, arith, if◌then◌else◌}
use Rattle.std.proofs.lemmas.List.{length-drop}
use Rattle.base_language.specs.Language.Text.{Text, size_of}
use Rattle.base_language.specs.Language.Expression.{Expression, Grammar, Ident, Rep, Rule, Seq, Str, rule_of}
use Rattle.base_language.specs.Language.State.{Classes, Mode, None', Outcome, State, Success, Failure, moved}
use Rattle.base_language.specs.Language.Matching.{begins, character_outcome}
use Rattle.base_language.specs.Language.Meaning as by
use Rattle.base_language.specs.Language.Meaning.{Run, Turns, body_mode, gives_token}
use Rattle.matcher_code.specs.Laid.{HasOutcome, IsTight}
use Rattle.matcher_code.specs.Failures.{in_silence}
use Rattle.matcher_code.specs.Comments.{closings, taken_to}
use Rattle.matcher_code.specs.CommentRules.{IsCommentBody, comment_outcome, comment_part}
use Rattle.matcher_code.proofs.Characters.{Quiet, moved_add, negated_silent, silently, three_silent, two_silent}
use Rattle.matcher_code.proofs.Closings.{Place, begins_nothing, begins_within, closed, first, further, inner, neither, nested, not_zero, place}

-- a state by its parts
abbrev state : ℕ → Text → List Text → State
state p cs ts = record { position = p; rest = cs; stack = ts }

-- a success behind the first of some rests; a failure if there is none
abbrev goes_to : State → List Text → Outcome
goes_to s [] = Failure
goes_to s (r ∷ rs) = Success (moved (length s.rest - length r) s) None'

module _ (g : Grammar) (classes : Classes) (m : Mode) (tight : IsTight g classes m) where
  abbrev Found : Expression → State → Outcome → Type 0
  Found e s o = Quiet g classes (Run m e) s o

  text_found : (t : Text) (s : State) → begins nat_eq t s.rest ≡ true → Found (Str t) s (Success (moved (length t) s) None')
  text_found t s e = subst (λ b. Found (Str t) s (if b then Success (moved (length t) s) None' else Failure)) e (by.str, λ asked. refl)

  text_missed : (t : Text) (s : State) → begins nat_eq t s.rest ≡ false → Found (Str t) s Failure
  text_missed t s e = subst (λ b. Found (Str t) s (if b then Success (moved (length t) s) None' else Failure)) e (by.str, λ asked. refl)

  in_turn : {a b : Expression} {s t : State} (o : Outcome) → Found a s (Success t None') → Found b t o → Found (Seq a b) s o
  in_turn {t = t} Failure d f = (by.seq_second d.0 (tight t).0 f.0, three_silent g classes d.1 (tight t).1 f.1)
  in_turn {t = t} (Success u us) d f = (by.seq d.0 (tight t).0 f.0, three_silent g classes d.1 (tight t).1 f.1)

  not_begun : {a b : Expression} {s : State} → Found a s Failure → Found (Seq a b) s Failure
  not_begun d = (by.seq_first d.0, d.1)

  module _ (x opening closing : Text) (any : Expression) where
    abbrev part : Expression
    part = comment_part x closing any

    of_comment : {s t : State} → Found (Ident x) s (Success t None') → Found part s (Success t None')
    of_comment d = (by.left d.0, d.1)

    of_character : {s t : State} → Found (Ident x) s Failure → Found (Str closing) s Failure → Found any s (Success t None') → Found part s (Success t None')
    of_character {s} d f h =
        (by.right d.0 (by.seq (by.neg_pred f.0) (tight s).0 h.0), two_silent g classes d.1 (three_silent g classes (negated_silent g classes f.1) (tight s).1 h.1))

    at_end : {s : State} → Found (Ident x) s Failure → Found (Str closing) s Failure → Found any s Failure → Found part s Failure
    at_end {s} d f h =
        (by.right d.0 (by.seq_second (by.neg_pred f.0) (tight s).0 h.0), two_silent g classes d.1 (three_silent g classes (negated_silent g classes f.1) (tight s).1 h.1))

    at_closing : {s t : State} → Found (Ident x) s Failure → Found (Str closing) s (Success t None') → Found part s Failure
    at_closing d f = (by.right d.0 (by.seq_first (by.neg_pred f.0)), two_silent g classes d.1 (negated_silent g classes f.1))

    -- from within a comment its parts are taken, and then it is closed or left open
    record GoesOn (s : State) (o : Outcome) : Type 0 where
      last : State
      parts : Found (Rep part) s (Success last None')
      turns : Quiet g classes (Turns m part) s (Success last None')
      ends : Found (Str closing) last o

    goes_on : {s t : State} {o : Outcome} → Found part s (Success t None') → GoesOn t o → GoesOn s o
    goes_on {s} d h = record {
      last = h.last;
      parts = (by.rep d.0 h.turns.0, two_silent g classes d.1 h.turns.1);
      turns = (by.turn (tight s).0 d.0 h.turns.0, three_silent g classes (tight s).1 d.1 h.turns.1);
      ends = h.ends;
    }

    goes_no_further : {s : State} {o : Outcome} → Found part s Failure → Found (Str closing) s o → GoesOn s o
    goes_no_further {s} d h = record {
      last = s;
      parts = (by.rep_none d.0, d.1);
      turns = (by.turn_none (tight s).0 d.0, two_silent g classes (tight s).1 d.1);
      ends = h;
    }

    module _ (body : Expression) (is : IsCommentBody x opening closing any body) where
      whole : (s t : State) (o : Outcome) → Found (Str opening) s (Success t None') → GoesOn t o → Found body s o
      whole s t o d h = elim is [
        | inl e ↦ subst (λ b. Found b s o) (sym e) (in_turn o (in_turn (Success h.last None') d h.parts) h.ends)
        | inr e ↦ subst (λ b. Found b s o) (sym e) (in_turn o d (in_turn o h.parts h.ends))
      ]

      none : (s : State) → Found (Str opening) s Failure → Found body s Failure
      none s d = elim is [
        | inl e ↦ subst (λ b. Found b s Failure) (sym e) (not_begun (not_begun d))
        | inr e ↦ subst (λ b. Found b s Failure) (sym e) (not_begun d)
      ]

      module _ (r : Rule) (named : rule_of g x ≡ Some r) (no_token : gives_token r.type_of m ≡ false) (mode : body_mode r m ≡ m) (same : r.body ≡ body)
          (anything : HasOutcome g classes (Run m any) (character_outcome (λ c. true)) in_silence)
          (has_opening : 0 < length opening) (has_closing : 0 < length closing) where
        abbrev rests : Text → List Text
        rests cs = closings opening closing 0 cs

        as_body : (s : State) (o : Outcome) → Found body s o → Quiet g classes (Run (body_mode r m) r.body) s o
        as_body s o d = subst (λ k. Quiet g classes (Run k r.body) s o) (sym mode) (subst (λ b. Found b s o) (sym same) d)

        call_fails : (s : State) → Found body s Failure → Found (Ident x) s Failure
        call_fails s d = silently g classes m x s r s false named no_token (as_body s Failure d)

        call_finds : (s t : State) → Found body s (Success t None') → Found (Ident x) s (Success t None')
        call_finds s t d = silently g classes m x s r t true named no_token (as_body s (Success t None') d)

        -- the same place from a later state
        later : (j : ℕ) (s : State) (rs : List Text) → rests (drop j s.rest) ≡ rs → j ≤ length s.rest → goes_to (moved j s) rs ≡ goes_to s rs
        later j s [] e h = refl
        later j s (q ∷ qs) e h =
            let d = drop j s.rest in
            let f = first opening closing has_opening has_closing (length d) d (omega arith) q qs e in
            let l = length-drop j s.rest in
            let k : length q ≡ length d - f.taken = ap length f.is ∙ length-drop f.taken d in
            let i : j + (length d - length q) ≡ length s.rest - length q = omega (arith, l, k, f.within, h) in
            ap (λ t. Success t None') (sym (moved_add j (length d - length q) s.position s.rest s.stack) ∙ ap (λ n. moved n s) i)

        -- no comment begins here that is closed
        fails : (s : State) → GoesOn (moved (length opening) s) (goes_to (moved (length opening) s) (rests (drop (length opening) s.rest)))
            → inner opening closing s.rest ≡ [] → Found (Ident x) s Failure
        fails s within a = go (begins nat_eq opening s.rest) refl
          where
            go : (b : Bool) → begins nat_eq opening s.rest ≡ b → Found (Ident x) s Failure
            go false e = call_fails s (none s (text_missed opening s e))
            go true e =
                let t = moved (length opening) s in
                let z : rests (drop (length opening) s.rest) ≡ [] = sym (ap (λ b. if b then rests (drop (length opening) s.rest) else []) e) ∙ a in
                call_fails s (whole s t Failure (text_found opening s e) (subst (λ rs. GoesOn t (goes_to t rs)) z within))

        -- behind a comment that begins here and is closed
        passes : (s : State) (q : Text) (qs : List Text) → begins nat_eq opening s.rest ≡ true → rests (drop (length opening) s.rest) ≡ q ∷ qs
            → GoesOn (moved (length opening) s) (goes_to (moved (length opening) s) (rests (drop (length opening) s.rest)))
            → ((u : State) → suc (length u.rest) ≤ length s.rest → GoesOn u (goes_to u (rests u.rest))) → GoesOn s (goes_to s qs)
        passes s q qs a f within ih =
            let k = length opening in
            let d = drop k s.rest in
            let t = moved k s in
            let w = begins_within opening s.rest a in
            let l = length-drop k s.rest in
            let y = first opening closing has_opening has_closing (length d) d (omega arith) q qs f in
            let o : length q ≡ length d - y.taken = ap length y.is ∙ length-drop y.taken d in
            let j : length d - length q ≡ y.taken = omega (arith, o, y.within) in
            let u = moved y.taken t in
            let found = call_finds s u (whole s t (Success u None') (text_found opening s a)
            (subst (λ i. GoesOn t (Success (moved i t) None')) j (subst (λ rs. GoesOn t (goes_to t rs)) f within))) in
            let n = length-drop y.taken d in
            let e : rests (drop y.taken d) ≡ qs = ap rests (sym y.is) ∙ sym y.others in
            let v : moved (k + y.taken) s ≡ u = moved_add k y.taken s.position s.rest s.stack in
            let z : goes_to u qs ≡ goes_to s qs =
            ap (λ i. goes_to i qs) (sym v) ∙ later (k + y.taken) s qs (ap rests (sym (drop-drop y.taken k s.rest)) ∙ e) (omega (arith, w, l, y.within)) in
            goes_on (of_comment found) (subst (λ i. GoesOn u i) (ap (goes_to u) e ∙ z) (ih u (omega (arith, n, l, w, y.within, has_opening))))

        goes : (n p : ℕ) (cs : Text) (ts : List Text) → length cs ≤ n → GoesOn (state p cs ts) (goes_to (state p cs ts) (rests cs))
        goes n p [] ts h =
            let s = state p [] ts in
            let e = text_missed closing s (begins_nothing closing has_closing) in
            goes_no_further (at_end (call_fails s (none s (text_missed opening s (begins_nothing opening has_opening)))) e (anything s)) e
        goes zero p (c ∷ cs) ts h = absurd (omega (arith, h))
        goes (suc n) p (c ∷ cs) ts h =
            go (goes n (p + size_of (take (length opening) (c ∷ cs))) (drop (length opening) (c ∷ cs)) ts (omega (arith, h, length-drop (length opening) (c ∷ cs), has_opening)))
            (λ u l. goes n u.position u.rest u.stack (omega (arith, h, l))) (place opening closing has_opening has_closing (c ∷ cs))
          where
            go : GoesOn (moved (length opening) (state p (c ∷ cs) ts)) (goes_to (moved (length opening) (state p (c ∷ cs) ts)) (rests (drop (length opening) (c ∷ cs))))
                → ((u : State) → suc (length u.rest) ≤ length (c ∷ cs) → GoesOn u (goes_to u (rests u.rest)))
                → Place opening closing (c ∷ cs) → GoesOn (state p (c ∷ cs) ts) (goes_to (state p (c ∷ cs) ts) (rests (c ∷ cs)))
            go within ih (nested q qs a f i) =
                let s = state p (c ∷ cs) ts in
                subst (λ rs. GoesOn s (goes_to s rs)) (sym i) (passes s q qs a f within ih)
            go within ih (closed a b i) =
                let s = state p (c ∷ cs) ts in
                let w = begins_within closing (c ∷ cs) b in
                let l = length-drop (length closing) (c ∷ cs) in
                let j : length closing ≡ length (c ∷ cs) - length (drop (length closing) (c ∷ cs)) = omega (arith, w, l) in
                let found = text_found closing s b in
                subst (λ o. GoesOn s o) (ap (λ n. Success (moved n s) None') j ∙ ap (goes_to s) (sym i)) (goes_no_further (at_closing (fails s within a) found) found)
            go within ih (neither a b i) =
                let s = state p (c ∷ cs) ts in
                subst (λ o. GoesOn s o) (later 1 s (rests cs) refl (omega arith) ∙ ap (goes_to s) (sym i))
                (goes_on (of_character (fails s within a) (text_missed closing s b) (anything s)) (ih (moved 1 s) (omega arith)))

        -- the number of characters tells where it goes
        told : (s : State) (rs : List Text) → rests (drop (length opening) s.rest) ≡ rs → length opening ≤ length s.rest
            → goes_to s rs ≡ (let n = taken_to s.rest rs in if n == 0 then Failure else Success (moved n s) None')
        told s [] e w = refl
        told s (q ∷ qs) e w =
            let d = drop (length opening) s.rest in
            let y = first opening closing has_opening has_closing (length d) d (omega arith) q qs e in
            let l = length-drop (length opening) s.rest in
            let o : length q ≡ length d - y.taken = ap length y.is ∙ length-drop y.taken d in
            let z = not_zero (length s.rest - length q) (omega (arith, l, o, y.within, w, has_opening)) in
            sym (ap (λ b. if b then Failure else Success (moved (length s.rest - length q) s) None') z)

        pub comments_matched : HasOutcome g classes (Run m body) (comment_outcome opening closing) in_silence
        comments_matched s = go (begins nat_eq opening s.rest) refl
          where
            go : (b : Bool) → begins nat_eq opening s.rest ≡ b → Found body s (comment_outcome opening closing s)
            go false e =
                subst (λ b. Found body s (let n = (if b then taken_to s.rest (closings opening closing (length opening) s.rest) else 0) in if n == 0 then Failure else Success (moved n s) None'))
                (sym e) (none s (text_missed opening s e))
            go true e =
                let k = length opening in
                let t = moved k s in
                let w = begins_within opening s.rest e in
                let d = whole s t (goes_to t (rests t.rest)) (text_found opening s e) (goes (length t.rest) t.position t.rest t.stack (omega arith)) in
                subst (λ b. Found body s (let n = (if b then taken_to s.rest (closings opening closing k s.rest) else 0) in if n == 0 then Failure else Success (moved n s) None'))
                (sym e)
                (subst (λ rs. Found body s (let n = taken_to s.rest rs in if n == 0 then Failure else Success (moved n s) None')) (sym (further opening closing k s.rest))
                (subst (λ o. Found body s o) (later k s (rests t.rest) refl w ∙ told s (rests t.rest) refl w) d))
