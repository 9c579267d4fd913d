-- Replies of one message.
use Rattle.std.proofs.Common.{◌≡◌, List, ℕ, Option, Some, None, Result, Ok, IfOk, String, IsSomeAnd, inl, inr, refl, string_bytes, subst}
use Rattle.std.specs.declared.alloc.AllocError.{AllocError}
use Rattle.std.specs.declared.alloc.Global.{Global}
use Rattle.server_protocol.specs.declared.messages.Answer.{Answer}
use Rattle.pest_language_server.specs.Replies.{IsOneMessage, IsResponse}
use Rattle.pest_language_server.specs.declared.replies.Reply.{Reply}
use Rattle.serde_json.specs.Data.{Data}

-- a message, as a reply
pub one_message : (P : List ℕ → Type 0) (r : Reply) (s : String Global) → r.body ≡ Some s → r.exit ≡ None → P (string_bytes s) → IsOneMessage P r
one_message P r s b e h = record { body = rw b h; exit = e }

weaker_body : (P Q : List ℕ → Type 0) → ((s : List ℕ) → P s → Q s) → (o : Option (String Global)) → IsSomeAnd o (λ s. P (string_bytes s)) → IsSomeAnd o (λ s. Q (string_bytes s))
weaker_body P Q f (Some s) p = f (string_bytes s) p
weaker_body P Q f None p = absurd p

-- less may be known of its message
pub IsOneMessage-weaker : (P Q : List ℕ → Type 0) (r : Reply) → ((s : List ℕ) → P s → Q s) → IsOneMessage P r → IsOneMessage Q r
IsOneMessage-weaker P Q r f h = record { body = weaker_body P Q f r.body h.body; exit = h.exit }

-- less may be known of its answer
pub IsResponse-weaker : (P Q : Answer → Type 0) (id : Data) → ((a : Answer) → P a → Q a) → (s : List ℕ) → IsResponse P id s → IsResponse Q id s
IsResponse-weaker P Q id f s (inl (a, p, m)) = inl (a, f a p, m)
IsResponse-weaker P Q id f s (inr m) = inr m

-- what holds of an outcome that is an answer holds of the answer
pub holds_of : (P : Answer → Type 0) (r : Result Answer AllocError) (a : Answer) → IfOk r P → r ≡ Ok a → P a
holds_of P r a h e = subst (λ (q : Result Answer AllocError). IfOk q P) e h
