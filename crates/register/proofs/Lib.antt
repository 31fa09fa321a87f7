mod Shutting
