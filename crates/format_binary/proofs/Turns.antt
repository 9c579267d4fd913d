-- What is still to be written, with one expression more, and how much it is.
use Rattle.std.proofs.Common.{◌≡◌, ℕ, ◌+◌, List, [], ◌∷◌, ◌++◌, Bor, refl, sym, ap, ◌∙◌, append-nil, append_assoc, arith}
use Rattle.format_binary.specs.Nodes.{bytes_in_turn, heft_in_turn}

pub bytes_in_turn_last : {E : Type 0} (bytes : E → List ℕ) (es : List (Bor E)) (e : Bor E) → bytes_in_turn bytes (es ++ (e ∷ [])) ≡ bytes e.now ++ bytes_in_turn bytes es
bytes_in_turn_last bytes [] e = sym (append-nil (bytes e.now))
bytes_in_turn_last bytes (x ∷ es) e = ap (λ t. t ++ bytes x.now) (bytes_in_turn_last bytes es e) ∙ append_assoc (bytes e.now) (bytes_in_turn bytes es) (bytes x.now)

-- of two more the last one is written first
pub bytes_in_turn_last_two : {E : Type 0} (bytes : E → List ℕ) (es : List (Bor E)) (e f : Bor E) → bytes_in_turn bytes ((es ++ (f ∷ [])) ++ (e ∷ [])) ≡ (bytes e.now ++ bytes f.now) ++ bytes_in_turn bytes es
bytes_in_turn_last_two bytes es e f = bytes_in_turn_last bytes (es ++ (f ∷ [])) e ∙ (ap (λ t. bytes e.now ++ t) (bytes_in_turn_last bytes es f) ∙ sym (append_assoc (bytes e.now) (bytes f.now) (bytes_in_turn bytes es)))

pub heft_in_turn_last : {E : Type 0} (heft : E → ℕ) (es : List (Bor E)) (e : Bor E) → heft_in_turn heft (es ++ (e ∷ [])) ≡ heft e.now + heft_in_turn heft es
heft_in_turn_last heft [] e = refl
heft_in_turn_last heft (x ∷ es) e = let rest = heft_in_turn_last heft es e in omega (arith, rest)

-- what a list of them goes by to which some are added
pub ruleset put_last = (bytes_in_turn_last, bytes_in_turn_last_two, heft_in_turn_last)

-- one expression that waits is written: its node, with its operands in its place
pub written_on : (old node ops rest whole next out waiting : List ℕ) → old ++ waiting ≡ whole → waiting ≡ next ++ rest → node ++ ops ≡ next → out ≡ old ++ node → out ++ (ops ++ rest) ≡ whole
written_on old node ops rest whole next out waiting h i j k =
    ap (λ t. t ++ (ops ++ rest)) k ∙ (append_assoc old node (ops ++ rest) ∙ (ap (λ t. old ++ t) (sym (append_assoc node ops rest)) ∙ (ap (λ t. old ++ (t ++ rest)) j ∙ (ap (λ t. old ++ t) (sym i) ∙ h))))
