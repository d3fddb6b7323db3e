-- A line that strays after its first call.
use Rattle.std.proofs.Common.{◌≡◌, ℕ, ◌∙◌, subst, inl, inr, arith}
use Rattle.vpg_desk.specs.Book.{Call, Reply}
use Rattle.vpg_engine.specs.Client.{ClientState, IsLogged}
use Rattle.vpg_engine.specs.Engine.{EngineState}
use Rattle.vpg_engine.specs.Faults.{IsAstray}

-- what is shown of an engine is shown of what contracts see of it
pub on_seen : (seen old : EngineState) (label : ℕ) (new : ClientState) → seen ≡ old → IsAstray seen.client label new → IsAstray old.client label new
on_seen seen old label new same is = subst (λ (e : EngineState). IsAstray e.client label new) same is

-- a stray after a call of the line is a stray of the line
pub after_call : (limit : ℕ) (old : ClientState) (label : ℕ) (call : Call) (reply : Reply) (mid new : ClientState) → IsLogged limit old label call reply mid → IsAstray mid label new → IsAstray old label new
after_call limit old label call reply mid new logged (inl foreign) = inl (record { more = omega (arith, foreign.more, logged.counted, logged.own); seats = foreign.seats ∙ logged.seats })
after_call limit old label call reply mid new logged (inr beyond) = inr beyond
