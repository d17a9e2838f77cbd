-- What the functions of the lexer answer inside: none of it is needed to read what `lex` promises.
pub mod Tokens
pub mod Punctuators
pub mod Keywords
pub mod Characters
pub mod Comments
pub mod Numbers
pub mod Directives
pub mod Elements
pub mod Names
pub mod Reading
