-- Sessions.
use Rattle.std.specs.Prelude.{◌≡◌, ℕ, List, Option, None, Some, string_bytes}
use Rattle.std.specs.Io.KnownBytes.{Appends, Keeps}
use Rattle.std.specs.declared.alloc.Global.{Global}
use Rattle.std.specs.declared.string.String.{String}
use Rattle.pest_language_server.specs.Replies.{IsRefusal}
use Rattle.pest_language_server.specs.Serving.{IsNew, RepliesTo}
use Rattle.pest_language_server.specs.declared.replies.Reply.{Reply}
use Rattle.pest_language_server.specs.declared.server.Server.{Server}
use Rattle.pest_language_server.specs.Frames.{IsFrameRead, frame_of}
use Rattle.pest_language_server.specs.declared.frames.InputFrame.{InputFrame}
use Rattle.pest_language_server.specs.declared.frames.InputFrame.TheVariants as frame

-- a reply to a frame: that to its body, or a refusal
abbrev pub RepliesToFrame : Server → Server → InputFrame → Reply → Type 0
RepliesToFrame old new (frame.Body body) reply = RepliesTo old new body.items reply
RepliesToFrame old new _ reply = (new ≡ old) × IsRefusal reply

-- a message is written as a frame
abbrev pub Sends : Option (List ℕ) → Option (List ℕ) → Option (String Global) → Type 0
Sends old new None = Keeps old new
Sends old new (Some body) = Appends old new (frame_of (string_bytes body))

-- a frame is read of an input, and the message of the reply to it is written
pub record Answers (old new : Server) (input rest output grown : Option (List ℕ)) (reply : Reply)
    : Type 0 where
  pub frame : InputFrame
  pub read : IsFrameRead input rest frame
  pub replies : RepliesToFrame old new frame reply
  pub sent : Sends output grown reply.body

-- a server answers frames of an input, one after another, up to a status: that of the reply that has one,
-- or 1 if the input ends, or a read or a write fails
pub data Serves : Server → Option (List ℕ) → Option (List ℕ) → ℕ → Type 0 where
  ends : (server : Server) (input output : Option (List ℕ)) → Serves server input output 1
  exits : (old new : Server) (input rest output grown : Option (List ℕ)) (reply : Reply) (status : ℕ)
      → Answers old new input rest output grown reply → reply.exit ≡ Some status
      → Serves old input output status
  answers : (old new : Server) (input rest output grown : Option (List ℕ)) (reply : Reply) (status : ℕ)
      → Answers old new input rest output grown reply → reply.exit ≡ None
      → Serves new rest grown status → Serves old input output status
  -- if there is no memory even for an error, nothing is written
  forgets : (old new : Server) (input rest output : Option (List ℕ)) (frame : InputFrame) (status : ℕ)
      → IsFrameRead input rest frame → Serves new rest output status → Serves old input output status

-- the work on one frame: the session ends with a status, or goes on
abbrev pub IsStep : Server → Server → Option (List ℕ) → Option (List ℕ) → Option (List ℕ)
    → Option (List ℕ) → Option ℕ → Type 0
IsStep old new input rest output grown None =
    (status : ℕ) → Serves new rest grown status → Serves old input output status
IsStep old new input rest output grown (Some status) = Serves old input output status

-- a session of a new server
abbrev pub IsSession : Option (List ℕ) → Option (List ℕ) → ℕ → Type 0
IsSession input output status =
    (server : Server) × IsNew server × Serves server input output status
