use Rattle.std.proofs.Common.{length}
use Rattle.lin_tool.proofs.locating.Tokens.token_at.Given as goal

abbrev pub decreases-passing : goal.decreases-passing
decreases-passing l = length l.self.rest.now
