-- `network::command::Command::of` meets its contract: each arm is a command's byte, and whatever is left is unknown. Assumes nothing.
use mathlib.Core.Path.{sym, ap}
use Rattle.network.specs.Network.{command}
use Rattle.network.specs.Engine.Commands.{kind_of}
use Rattle.network.proofs.Laws.Network.{command_unknown}
use Rattle.network.proofs.command.Command.of.Goals as goal

pub returns-in-76 : goal.returns-in-76
unfolding kind_of command
returns-in-76 c = sym (ap command c.in-76.is)

pub returns-in-67 : goal.returns-in-67
unfolding kind_of command
returns-in-67 c = sym (ap command c.in-67.is)

pub returns-in-70 : goal.returns-in-70
unfolding kind_of command
returns-in-70 c = sym (ap command c.in-70.is)

pub returns-in-69 : goal.returns-in-69
unfolding kind_of command
returns-in-69 c = sym (ap command c.in-69.is)

pub returns-in-86 : goal.returns-in-86
unfolding kind_of command
returns-in-86 c = sym (ap command c.in-86.is)

pub returns-in_default : goal.returns-in_default
unfolding kind_of
returns-in_default c = let r = c.in_default.in_default-own.rest in
    sym (command_unknown c.args.code r.0.0.0.0.1 r.0.0.0.1 r.0.0.1 r.1 r.0.1)
