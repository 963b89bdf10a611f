-- What the types of the parser and the printer stand for.
use Rattle.mail_query.specs.Tokens as tokens
use Rattle.mail_query.specs.Refusals as refusals
use Rattle.mail_query.specs.Printed as printed
use Rattle.mail_query.specs.declared.group.Before.{Before}
use Rattle.mail_query.specs.declared.group.Before.TheVariants as before
use Rattle.mail_query.specs.declared.printer.Context.{Context}
use Rattle.mail_query.specs.declared.printer.Context.TheVariants as context
use Rattle.mail_query.specs.declared.token.Token.{Token}
use Rattle.mail_query.specs.declared.token.Token.TheVariants.{Run, Bang, Bar, Open, Close, Other}

abbrev pub token_of : Token → tokens.Token
token_of (Run run) = tokens.Token.Run run.now
token_of Bang = tokens.Token.Bang
token_of Bar = tokens.Token.Bar
token_of Open = tokens.Token.Open
token_of Close = tokens.Token.Close
token_of Other = tokens.Token.Other

abbrev pub seen_before : Before → refusals.Before
seen_before before.Start = refusals.Before.Start
seen_before before.Bang = refusals.Before.Bang
seen_before before.Item = refusals.Before.Item

abbrev pub context_of : Context → printed.Context
context_of context.Alone = printed.Context.Alone
context_of context.InAny = printed.Context.InAny
context_of context.InAll = printed.Context.InAll
context_of context.UnderNot = printed.Context.UnderNot
