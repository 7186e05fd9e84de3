mod Definitions
mod Systems
mod Reading
mod OneLine
